-- `pairs` meets its contract: the first row is that of the pairs of the elements that are left.
use Rattle.std.proofs.Common.{◌≡◌, length}
use Rattle.refusal.specs.Outcome.{outcome_of}
use Rattle.refusal.specs.Table.{Row, first, pairs}
use Rattle.std.specs.Prelude.{List}
use Rattle.refusal.proofs.first.pairs.Given as goal

abbrev pub invariant-loop-x : goal.invariant-loop-x
invariant-loop-x g l =
    (rows : g.row.T.Denot → g.row.T.Denot → List Row) →
    ((x : g.row.T.Denot) (y : g.row.T.Denot) (r : _) → goal.F-post g l.check x y r → outcome_of r ≡ first (rows x y)) →
    first (pairs rows l.xs) ≡ first (pairs rows l.rest)

abbrev pub decreases-loop-x : goal.decreases-loop-x
decreases-loop-x g l = length l.rest
