use Rattle.std.proofs.Common.{arith, ap, ◌∙◌, get_or, take}
use Rattle.std.proofs.lemmas.Result.{err_from_is_err_and}
use Rattle.scene.specs.Scene.{scene}
use Rattle.scene_text.specs.Reading.{reading, taken}
use Rattle.scene_text.proofs.Kept.{stops}
use Rattle.scene_text.proofs.take.Goals as goal

-- no call changes how long the line is
pub returns-in_err-len-clause-lists : goal.returns-in_err-len-clause-lists
returns-in_err-len-clause-lists c =
    let p = err_from_is_err_and c.from_residual.result c.from_residual.ensures.1 in
    let l = c.loop-byte in
    let read = reading (scene l.numbers l.base l.sup) (take l.len l.line) in
    let bad = c.in_err-len.ensures.lists ∙ ap (λ room. taken room read (get_or c.args.piece.now l.byte-index 0)) l.auto.line in
    rw p.1 (stops _ _ read c.args.piece.now l.byte-index _ (omega arith) l.invariant.so_far bad)
