-- A map that may be read has at most 512 entries, each a code.
use Prim.Native.Nat.{ℕ, ◌≤◌}
use mathlib.Core.List.{List, flat_map}
use mathlib.Core.Path.{◌≡◌}
use lib.ListN.{length}
use borrow.Author.Tests.{ltb-false}
use Rattle.layout.specs.Size.{entries}
use Rattle.refusal.proofs.None.{none, both, test}
use Rattle.refusal.specs.Table.{accepted, first}
use Rattle.rows.specs.Rows.{row2, read_rows}

pub read_length : (code : ℕ) (xs : List ℕ) → first (read_rows code xs) ≡ accepted → length xs ≤ entries
unfolding read_rows flat_map row2
read_length code xs e = ltb-false _ _ (test _ _ _ (both (row2 xs) _ (none _ e)).0)
