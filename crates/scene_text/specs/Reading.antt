-- A text that is read piece by piece: what a reader keeps between two pieces, and that it reads the lines of the whole text.
use Rattle.std.specs.Prelude.{ℕ, ◌<◌, List, [], ◌∷◌, ◌++◌, ◌≡◌, eqb, take, fold, Result, Ok, Err}
use Rattle.fields.specs.Ascii.{line_feed}
use Rattle.fields.specs.Named.{pick}
use Rattle.scene.specs.Scene.{Scene}
use Rattle.scene_line.specs.Line.{line_of}
use Rattle.scene_text.specs.Text.{Read, whole, bad_line, heard, read_from}
use Rattle.scene_text.specs.declared.BadLine.{BadLine}

-- the scene of the lines that have ended, and the first bytes of the line that has not; or the scene before a bad line
pub data Reading : Type 0 where
  reading : Scene → List ℕ → Reading
  stopped : Scene → Reading

-- after a line that has ended
abbrev pub read_on : Read → Reading
read_on (whole s) = reading s []
read_on (bad_line s) = stopped s

-- one byte more: a line feed ends the line, of which as many bytes are kept as there is room for
abbrev pub taken : ℕ → Reading → ℕ → Reading
taken room (reading s line) c =
    pick (eqb c line_feed) (read_on (heard s (line_of line))) (reading s (take room (line ++ (c ∷ []))))
taken room (stopped s) c = stopped s

unfoldable pub taken_all : ℕ → Reading → List ℕ → Reading
taken_all room r cs = fold (taken room) r cs

-- at the end of the text: the last line may lack its line feed
abbrev pub finished : Reading → Read
finished (reading s []) = whole s
finished (reading s (c ∷ cs)) = heard s (line_of (c ∷ cs))
finished (stopped s) = bad_line s

-- with room for 36 bytes of a line, what is read of the pieces is what the lines of the text say
abbrev pub ReadsLines : Type 0
ReadsLines =
    (room : ℕ) → 35 < room →
    (s : Scene) (text : List ℕ) → finished (taken_all room (reading s []) text) ≡ read_from s text

-- and pieces one after the other are read as one
abbrev pub ReadsPieces : Type 0
ReadsPieces =
    (room : ℕ) (r : Reading) (piece next : List ℕ) → taken_all room r (piece ++ next) ≡ taken_all room (taken_all room r piece) next

-- the answers of the code, by what is kept of the line
abbrev pub going_on : Result Unit BadLine → List ℕ → Scene → Reading
going_on (Ok all) line s = reading s line
going_on (Err bad) line s = stopped s

abbrev pub read_of : Result Unit BadLine → Scene → Read
read_of (Ok all) s = whole s
read_of (Err bad) s = bad_line s

-- and where what is kept stands in the front of a buffer
abbrev pub reading_of : Result ℕ BadLine → List ℕ → Scene → Reading
reading_of (Ok n) line s = reading s (take n line)
reading_of (Err bad) line s = stopped s
