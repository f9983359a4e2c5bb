-- `each` meets its contract: the first row is that of the elements from the next one on.
use Rattle.std.proofs.Common.{◌≡◌, drop}
use Rattle.refusal.specs.Outcome.{outcome_of}
use Rattle.refusal.specs.Table.{Row, first, each}
use Rattle.std.specs.Prelude.{List}
use Rattle.refusal.proofs.first.each.Given as goal

abbrev pub invariant-loop-x : goal.invariant-loop-x
invariant-loop-x g l =
    (rows : g.row.T.Denot → List Row) →
    ((x : g.row.T.Denot) (r : _) → goal.F-post g l.check x r → outcome_of r ≡ first (rows x)) →
    first (each rows l.xs) ≡ first (each rows (drop l.x-index l.xs))
