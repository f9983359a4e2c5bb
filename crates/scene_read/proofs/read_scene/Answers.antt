use Rattle.std.proofs.Common.{arith, ◌<◌, [], ◌++◌, refl, sym, ap, subst, ◌∙◌, length, length-append, take}
use Rattle.std.proofs.KnownBytes.{Consumes-nil, Consumes-trans}
use Rattle.std.specs.Io.KnownBytes.{Consumes}
use Rattle.scene.specs.Lent.{held}
use Rattle.scene_read.proofs.SoFar.{more, all_read, never_so_often, bad_read, left_read, on_err}
use Rattle.scene_read.specs.Input.{IsTextOf}
use Rattle.scene_text.proofs.Lines.{reads_lines}
use Rattle.scene_text.specs.Reading.{reading, taken_all, finished}
use Rattle.scene_read.proofs.read_scene.Goals as goal
use Rattle.scene_read.proofs.read_scene.Goals.{else-loop-piece-test, then-loop-piece-test+in_ok-n+then-n-eq0}

pub loop-piece-init : goal.loop-piece-init
unfolding taken_all
loop-piece-init g c = record {
  piece_long = refl;
  same_lists = (refl, refl, refl);
  so_far = ([], ap (reading (held c.args.scene.now)) (sym c.new-line.ensures), Consumes-nil (g.R.Read.remaining c.args.input.now), omega arith);
}

pub returns-in_err-n-clause-err : goal.returns-in_err-n-clause-err
returns-in_err-n-clause-err g c =
    let so_far = c.loop-piece.invariant.so_far in
    on_err c.from_residual.result (left_read _ _ _ _ _ so_far.0 _ so_far.2 c.in_err-n.ensures.bytes so_far.1)

pub returns-in-Err-clause-ok : goal.returns-in-Err-clause-ok
returns-in-Err-clause-ok g c =
    let so_far = c.loop-piece.invariant.so_far in
    let piece = take c.in_ok-n.n c.read.new.buf in
    bad_read _ _ _ _ (so_far.0 ++ piece) c.in-Err.bad (Consumes-trans _ _ _ so_far.0 piece so_far.2 c.in_ok-n.ensures.bytes.0)
    (more _ so_far.0 piece _ _ so_far.1 c.in-Err.ensures.lists)

pub loop-piece-preserved : goal.loop-piece-preserved
loop-piece-preserved g c =
    let inv = c.loop-piece.invariant in
    let same = c.take.ensures.same_lists in
    let so_far = inv.so_far in
    let piece = take c.in_ok-n.n c.read.new.buf in
    let some : 0 < length piece = omega (arith, c.if-n-eq0.false, c.in_ok-n.ensures.bound.1) in
    record {
      piece_long = c.read.auto.buf ∙ inv.piece_long;
      same_lists = (same.0 ∙ inv.same_lists.0, same.1 ∙ inv.same_lists.1, same.2 ∙ inv.same_lists.2);
      so_far = (
        so_far.0 ++ piece,
        more _ so_far.0 piece _ _ so_far.1 c.in_default.ensures.lists,
        Consumes-trans _ _ _ so_far.0 piece so_far.2 c.in_ok-n.ensures.bytes.0,
        omega (arith, so_far.3, some, length-append so_far.0 piece),
      );
    }

pub returns-clause-ok : goal.returns-clause-ok
returns-clause-ok g c =
    let inv = c.loop-piece.invariant in
    let so_far = inv.so_far in
    let whole : IsTextOf (g.R.Read.remaining c.args.input.now) so_far.0 =
    elim c.loop-piece-test.branch [
      | else-loop-piece-test w ↦ never_so_often _ _ so_far.0 so_far.2 (omega (arith, so_far.3, w.loop-piece-test.false))
      | then-loop-piece-test+in_ok-n+then-n-eq0 w ↦
          let none : Consumes (g.R.Read.remaining c.loop-piece.input) (g.R.Read.remaining w.read.new.self) [] =
          subst (λ k. Consumes (g.R.Read.remaining c.loop-piece.input) (g.R.Read.remaining w.read.new.self) (take k w.read.new.buf))
          w.if-n-eq0.true w.in_ok-n.ensures.bytes.0 in
          let room : 0 < length w.read.new.buf = omega (arith, w.read.auto.buf, inv.piece_long) in
          all_read _ _ _ so_far.0 so_far.2 none (w.in_ok-n.ensures.bytes.1 w.if-n-eq0.true room)
    ] in
    (so_far.0, whole, c.finish.ensures.lists ∙ ap finished (sym so_far.1) ∙ reads_lines 36 (omega arith) _ so_far.0)
