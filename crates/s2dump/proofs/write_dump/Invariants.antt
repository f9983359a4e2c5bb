use Rattle.std.specs.Io.KnownBytes.{Appends}
use Rattle.dump.specs.Dump.{in_order}
use Rattle.dump.specs.Pieces.{piece_at}
use Rattle.s2dump.proofs.write_dump.Given as goal

-- so many pieces have been written
abbrev pub invariant-loop-i : goal.invariant-loop-i
invariant-loop-i g l =
    Appends (g.W.Write.contents l.fn.output) (g.W.Write.contents l.output) (in_order (piece_at l.dump.answer l.dump.words) 0 l.i)
