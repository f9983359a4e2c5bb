-- `each_from` meets its contract: the first row is that of the elements from position i on.
use Rattle.std.proofs.Common.{ℕ, ◌≡◌, drop}
use Rattle.refusal.specs.Outcome.{outcome_of}
use Rattle.refusal.specs.Table.{Row, first, each_from}
use Rattle.std.specs.Prelude.{List}
use Rattle.refusal.proofs.first.each_from.Given as goal

abbrev pub invariant-loop-i : goal.invariant-loop-i
invariant-loop-i g l =
    (rows : ℕ → g.row.T.Denot → List Row) →
    ((i : ℕ) (x : g.row.T.Denot) (r : _) → goal.F-post g l.check i x r → outcome_of r ≡ first (rows i x)) →
    first (each_from rows 0 l.xs) ≡ first (each_from rows l.i (drop l.i l.xs))
