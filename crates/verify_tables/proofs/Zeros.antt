-- Words that are 0 have no row 21.
use Prim.Native.Nat.{ℕ, ◌≤◌, ◌<◌}
use mathlib.Core.List.{List, []}
use mathlib.Core.Path.{◌≡◌}
use borrow.Author.Tests.{eq-eqb}
use Rattle.layout.specs.Size.{entries}
use Rattle.layout.specs.declared.Layout.{Layout}
use Rattle.verify_rows.proofs.Range.{passed}
use Rattle.verify_rows.specs.Verifying.{word, other_row}
use Rattle.verify_tables.specs.Sooner.{other_rows_from}

module _ (arena : List ℕ) (l : Layout) (t : ℕ) where
  zero_row : (k : ℕ) → word arena t k ≡ 0 → other_row arena l t k ≡ []
  unfolding other_row
  zero_row k z = rw (eq-eqb _ _ z)

  pub zeros :
      (j r : ℕ) →
      j ≤ r → r ≤ entries → ((k : ℕ) → k < r → j ≤ k → word arena t k ≡ 0) → other_rows_from arena l t j ≡ other_rows_from arena l t r
  zeros j r low high none = passed (other_row arena l t) entries j r low high (λ k lt le. zero_row k (none k lt le))
