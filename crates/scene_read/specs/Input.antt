-- A scene that is read from a reader, and what is written of it.
use Rattle.std.specs.Prelude.{ℕ, ◌-◌, ◌^◌, ◌<◌, Option, List, Result, [], ◌≡◌, length, IfSome}
use Rattle.std.specs.Io.KnownBytes.{Appends, Consumes}
use Rattle.scene.specs.Scene.{Scene}
use Rattle.scene_text.specs.Reading.{reading, taken_all, read_of}
use Rattle.scene_text.specs.Text.{read_from}
use Rattle.scene_text.specs.declared.BadLine.{BadLine}

-- the text is the bytes that the reader has, where they are known, if they are no more than any input has
abbrev pub IsTextOf : Option (List ℕ) → List ℕ → Type 0
IsTextOf known text = IfSome known (λ bytes. length bytes < 2 ^ 64 - 1 → text ≡ bytes)

-- the answer and the scene at exit are those of the text, read over the scene at entry
abbrev pub ReadsText : Option (List ℕ) → Scene → Result Unit BadLine → Scene → Type 0
ReadsText known s read new = (text : List ℕ) × IsTextOf known text × (read_of read new ≡ read_from s text)

-- where a read fails: the scene of the lines that have ended, of the text that was read until then and that the reader has lost
abbrev pub LeavesText : Option (List ℕ) → Option (List ℕ) → Scene → Scene → Type 0
LeavesText known left s new =
    (text : List ℕ)
    × Consumes known left text
    × ((line : List ℕ) × (taken_all 36 (reading s []) text ≡ reading new line))

-- the same where the scene is dropped: the lines that have ended are those of some scene, so that none of them was bad
abbrev pub LosesText : Option (List ℕ) → Option (List ℕ) → Scene → Type 0
LosesText known left s = (new : Scene) × LeavesText known left s new

-- what is printed of the text is written, by the bytes that the reader has, and those that the writer holds at entry and exit
abbrev pub WritesText : (List ℕ → List ℕ) → Option (List ℕ) → Option (List ℕ) → Option (List ℕ) → Type 0
WritesText printed known old new = (text : List ℕ) × IsTextOf known text × Appends old new (printed text)
