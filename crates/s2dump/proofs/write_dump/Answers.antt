use Rattle.std.proofs.Common.{ℕ, List, sym, subst}
use Rattle.std.proofs.KnownBytes.{Appends-nil, Appends-trans}
use Rattle.std.specs.Io.KnownBytes.{Appends}
use Rattle.dump.specs.Dump.{in_order}
use Rattle.dump.specs.Pieces.{piece_at}
use Rattle.s2dump.proofs.Written.{one_more}
use Rattle.s2dump.proofs.write_dump.Goals as goal

pub loop-i-init : goal.loop-i-init
unfolding in_order
loop-i-init g c = Appends-nil (g.W.Write.contents c.args.output.now)

pub loop-i-preserved : goal.loop-i-preserved
loop-i-preserved g c =
    let text : ℕ → List ℕ = piece_at c.args.dump.now.answer c.args.dump.now.words in
    let i = c.loop-i.i in
    let between = g.W.Write.contents c.loop-i.output in
    let new = g.W.Write.contents c.write_all.new.self in
    let more : Appends between new (text i) = rw (c.as_slice.ensures.bytes, c.piece-piece.ensures) at c.in_ok-write_all.ensures.bytes in
    subst (λ xs. Appends (g.W.Write.contents c.args.output.now) new xs) (sym (one_more text i))
    (Appends-trans _ between new (in_order text 0 i) (text i) c.loop-i.invariant more)
