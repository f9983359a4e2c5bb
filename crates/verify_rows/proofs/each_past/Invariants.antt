-- `each_past` meets its contract: below j no number has a row.
use Rattle.std.proofs.Common.{ℕ, ◌≡◌, ◌<◌, true}
use Rattle.std.specs.Prelude.{List, []}
use Rattle.refusal.specs.Table.{Row, first, each}
use Rattle.verify_rows.proofs.Range.{rest}
use Rattle.verify_rows.specs.Verifying.{range}
use Rattle.verify_rows.proofs.each_past.Given as goal

abbrev pub invariant-loop-j : goal.invariant-loop-j
invariant-loop-j g l =
    (rows : ℕ → List Row) →
    ((j : ℕ) → j < l.count → goal.P-post g l.passes j true → rows j ≡ []) →
    each rows (range 0 l.count) ≡ each rows (rest l.count l.j)
