use Rattle.std.proofs.Common.{ℕ, ◌≤◌, List, [], ◌≡◌, length}
use Rattle.std.specs.Io.KnownBytes.{Consumes}
use Rattle.scene.specs.Lent.{held, SameLists}
use Rattle.scene_text.specs.Reading.{reading, taken_all}
use Rattle.scene_read.proofs.read_scene.Given as goal

-- what has been read so far is some text
abbrev pub invariant-loop-piece : goal.invariant-loop-piece
invariant-loop-piece g l = record {
  piece_long : length l.piece ≡ 4096;
  same_lists : SameLists l.fn.scene l.scene;
  so_far :
      (text : List ℕ)
      × (taken_all 36 (reading (held l.fn.scene) []) text ≡ reading (held l.scene) l.line)
      × Consumes (g.R.Read.remaining l.fn.input) (g.R.Read.remaining l.input) text
      × (l._piece ≤ length text);
}
