-- `annex` meets its contract: rows 2 to 14 come first.
use Rattle.std.proofs.Common.{rules}
use Rattle.annex.proofs.Rows.{denied_first}
use Rattle.refusal.specs.Outcome.{row_of}
use Rattle.annex.proofs.annex.Goals as goal

pub returns-in_err-guard_maps_at : goal.returns-in_err-guard_maps_at
returns-in_err-guard_maps_at c =
    denied_first c.args.l c.args.maps.base.now c.args.maps.sup.now c.args.page.now _ (row_of c.in_err-guard_maps_at.field-0.0) (search rules)
    c.in_err-guard_maps_at.ensures
