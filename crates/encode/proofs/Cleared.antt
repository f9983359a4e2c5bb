-- Clearing tables 4 to 6: a write of zeros to the arena's end.
use Rattle.std.proofs.Common.{ℕ, ◌+◌, ◌*◌, ◌≤◌, ◌<◌, ◌≡◌, List, length, get_or, replicate, arith, rules}
use Rattle.std.proofs.lemmas.Bool.Decides.{nat_tests}
use Rattle.std.proofs.lemmas.List.{places}
use borrow.Rule.Slice.PartMut.{put_mid, mid_of}
use Rattle.arena.specs.Encoded.{cleared}
use Rattle.arena.specs.Over.{Over}
use Rattle.layout.specs.Size.{entries}

module _ (at n : ℕ) (xs ys : List ℕ) (long : length xs ≡ at + n) (zeros : ys ≡ replicate (length (mid_of at n xs)) 0) where
  filled : length ys ≡ n
  filled = rw zeros (search (rules, places))

  same_length : length (put_mid at n xs ys) ≡ length xs
  same_length = let m = filled in search (rules, places)

  below : (i : ℕ) → i < at → get_or (put_mid at n xs ys) i 0 ≡ get_or xs i 0
  below i h = search (rules, places)

  above : (i : ℕ) → at ≤ i → get_or (put_mid at n xs ys) i 0 ≡ 0
  above i h = let m = filled in search (rules, places)

module _ (n : ℕ) (xs ys : List ℕ) (long : length xs ≡ 3 * entries + n) (zeros : ys ≡ replicate (length (mid_of (3 * entries) n xs)) 0) where
  pub tables_cleared : Over cleared xs (put_mid (3 * entries) n xs ys)
  tables_cleared =
      let lo = below (3 * entries) n xs ys long zeros in
      let hi = above (3 * entries) n xs ys long zeros in
      record { long = same_length (3 * entries) n xs ys long zeros; word = λ i h. grind (arith, nat_tests, lo i, hi i) }
