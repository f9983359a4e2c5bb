-- No entry is above the largest.
use Rattle.std.proofs.Common.{ℕ, zero, suc, max, ◌≤◌, ◌≡◌, List, [], ◌∷◌, get_or, arith}
use Rattle.std.specs.List.{fold}
use Rattle.map_entries.specs.Larger.{largest}

grows : (bs : List ℕ) (most : ℕ) → most ≤ fold max most bs
grows [] most = omega arith
grows (b ∷ bs) most = omega (arith, grows bs (max most b))

reached : (bs : List ℕ) (most i : ℕ) → get_or bs i 0 ≤ fold max most bs
reached [] most i = omega arith
reached (b ∷ bs) most zero = omega (arith, grows bs (max most b))
reached (b ∷ bs) most (suc i) = reached bs (max most b) i

pub at_most : (xs : List ℕ) (r : ℕ) → r ≡ largest xs → (i : ℕ) → get_or xs i 0 ≤ r
unfolding largest
at_most xs r e i = omega (arith, e, reached xs 0 i)
