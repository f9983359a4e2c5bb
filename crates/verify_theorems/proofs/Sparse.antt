-- Rows over the numbers below a count, where all but a few have none: those of the few, in their order.
use Prim.Native.Nat.{ℕ, ◌+◌, ◌-◌, ◌≤◌, ◌<◌}
use mathlib.Core.Bool.{Bool, true, false, ◌&&◌, ◌||◌}
use mathlib.Core.List.{List, [], ◌∷◌, ◌++◌, flat_map}
use mathlib.Core.Path.{◌≡◌, refl, ap, ◌∙◌}
use native.Mathlib.Omega.{arith}
use lib.Dec.{eqb, leb, ltb}
use borrow.Author.Tests.{leb-true, ltb-true, ne_eqb}
use Rattle.refusal.specs.Table.{Row, each}
use Rattle.verify_rows.proofs.Range.{rest, rest_at, passed}
use Rattle.verify_rows.specs.Verifying.{range}
use Rattle.verify_theorems.proofs.Told.{halves}

abbrev pub member : ℕ → List ℕ → Bool
member n [] = false
member n (x ∷ xs) = eqb n x || member n xs

-- numbers from k on and below n, each above the one before it
abbrev pub rising : ℕ → ℕ → List ℕ → Bool
rising n k [] = true
rising n k (x ∷ xs) = leb k x && (ltb x n && rising n (x + 1) xs)

below : (n j k : ℕ) (xs : List ℕ) → rising n k xs ≡ true → j < k → member j xs ≡ false
below n j k [] up h = refl
below n j k (x ∷ xs) up h =
    let least = halves (leb k x) _ up in
    let from = leb-true k x least.0 in
    rw (
      ne_eqb j x (λ e. omega (arith, e, from, h)),
      below n j (x + 1) xs (halves (ltb x n) _ least.1).1 (omega (arith, from, h)),
    )

module _ (f : ℕ → List Row) (n : ℕ) where
  pub sparse :
      (i : ℕ) (xs : List ℕ) → i ≤ n → rising n i xs ≡ true →
      ((j : ℕ) → i ≤ j → j < n → member j xs ≡ false → f j ≡ []) → each f (rest n i) ≡ each f xs
  unfolding flat_map range
  sparse i [] h up gaps =
      let z : n - n ≡ 0 = omega arith in
      passed f n i n h (omega arith) (λ j lt le. gaps j le lt refl) ∙ rw z
  sparse i (x ∷ xs) h up gaps =
      let least = halves (leb i x) _ up in
      let next = halves (ltb x n) _ least.1 in
      let from = leb-true i x least.0 in
      let to = ltb-true x n next.0 in
      let skipped : (j : ℕ) → j < x → i ≤ j → f j ≡ [] =
      λ j lt le.
      gaps j le (omega (arith, lt, to))
      (rw (ne_eqb j x (λ e. omega (arith, e, lt)), below n j (x + 1) xs next.1 (omega (arith, lt)))) in
      let later = sparse (x + 1) xs (omega (arith, to)) next.1
      (λ j le lt m. gaps j (omega (arith, le, from)) lt (rw (ne_eqb j x (λ e. omega (arith, e, le)), m))) in
      passed f n i x from (omega (arith, to)) skipped ∙ rest_at f n x to ∙ ap (λ rs. f x ++ rs) later
