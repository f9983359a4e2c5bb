-- `leaf_map_from_edges` meets its contract: a refused step ends it, and others are followed by the next edge.
use Rattle.std.proofs.Common.{Err, rules, ◌≡◌, refl, ap, ◌∙◌}
use Rattle.filling.proofs.Filled.{begun, one_placed, one_refused, all_placed}
use Rattle.filling.specs.Filling.{filling, placed, conflicts}
use Rattle.leafmap.proofs.leaf_map_from_edges.Goals as goal

pub returns-in_err-start : goal.returns-in_err-start
returns-in_err-start g c read says =
    let told : c.from_residual.result ≡ Err c.in_err-start.field-0.0 = search rules in
    rw told (one_refused (begun (c.in_err-start.ensures {u = tt})) _ refl)

pub loop-e-init : goal.loop-e-init
loop-e-init g c read says = begun (c.in_ok-start.ensures {u = tt})

pub returns-in_err-place : goal.returns-in_err-place
returns-in_err-place g c read says =
    let told : c.from_residual-in_err-place.result ≡ Err c.in_err-place.field-0.0 = search rules in
    let edge = ap (placed _ _ _) (says c.e-item.result _ c.into.ensures) in
    rw told
    (one_refused
    (one_placed (c.loop-e.invariant read says) c.e-item.result c.e-item.is c.loop-e-test.true refl (c.in_err-place.ensures {u = tt} ∙ edge))
    _ refl)

pub loop-e-preserved : goal.loop-e-preserved
loop-e-preserved g c read says =
    let edge = ap (placed _ _ _) (says c.e-item.result _ c.into.ensures) in
    one_placed (c.loop-e.invariant read says) c.e-item.result c.e-item.is c.loop-e-test.true refl (c.in_ok-place.ensures {u = tt} ∙ edge)

pub returns : goal.returns
unfolding conflicts
returns g c read says =
    all_placed (c.loop-e.invariant read says) c.loop-e-test.false refl (ap (filling _ _) c.no_conflict.ensures)
