-- `encode_guarded` meets its contract: tables are cleared, then the words stored.
use Rattle.std.proofs.Common.{[], ◌∷◌}
use Rattle.arena.proofs.Over.{over_then, over_append}
use Rattle.arena.specs.Encoded.{stored, runs_of, upper_runs, leaf_runs, cleared, encoded}
use Rattle.encode.proofs.encode_guarded.Goals as goal

pub returns : goal.returns
unfolding encoded leaf_runs
returns c =
    let l = c.args.l in
    let base = c.args.maps.base.now in
    let sup = c.args.maps.sup.now in
    let device = rw c.device_window.ensures at c.put_device.ensures in
    let supers = over_append (_ ∷ []) (_ ∷ []) _ _ _ c.put_supers.ensures device in
    let leaves = over_append (_ ∷ []) (_ ∷ _ ∷ []) _ _ _ c.put_pages.ensures supers in
    over_then cleared (stored (runs_of l base sup)) _ _ _ c.clear.ensures
    (over_append (upper_runs l) (leaf_runs l base sup) _ _ _ c.encode_upper.ensures leaves)
