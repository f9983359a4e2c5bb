-- what has been read of the piece leaves what is kept
use Rattle.std.proofs.Common.{◌≡◌, ◌≤◌, length, take}
use Rattle.scene.specs.Scene.{scene}
use Rattle.scene_text.specs.Reading.{reading, taken_all}
use Rattle.scene_text.proofs.take.Given as goal

abbrev pub invariant-loop-byte : goal.invariant-loop-byte
invariant-loop-byte l = record {
  fits : l.len ≤ length l.line;
  so_far : taken_all (length l.fn.line) (reading (scene l.fn.numbers l.fn.base l.fn.sup) (take l.kept l.fn.line)) (take l.byte-index l.piece)
      ≡ reading (scene l.numbers l.base l.sup) (take l.len l.line);
}
