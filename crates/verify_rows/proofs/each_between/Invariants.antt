-- `each_between` meets its contract: the first row is that of the numbers from j on.
use Rattle.std.proofs.Common.{ℕ, ◌≡◌, ◌<◌}
use Rattle.std.specs.Prelude.{List}
use Rattle.refusal.specs.Outcome.{outcome_of}
use Rattle.refusal.specs.Table.{Row, first, each}
use Rattle.verify_rows.proofs.Range.{rest}
use Rattle.verify_rows.proofs.each_between.Given as goal

abbrev pub invariant-loop-j : goal.invariant-loop-j
invariant-loop-j g l =
    (rows : ℕ → List Row) →
    ((j : ℕ) (r : _) → j < l.end → goal.F-post g l.check j r → outcome_of r ≡ first (rows j)) →
    first (each rows (rest l.end l.from)) ≡ first (each rows (rest l.end l.j))
