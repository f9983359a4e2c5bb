-- A line that says something has at most 35 bytes: a letter, two spaces and two numbers of 16 digits.
use Rattle.std.specs.Prelude.{ℕ, ◌<◌, List, ◌≡◌, length, None}
use Rattle.scene_line.specs.Line.{line_of}

-- so a reader may keep the first 36 bytes of a line, and no more
abbrev pub LongSaysNothing : Type 0
LongSaysNothing = (cs : List ℕ) → 35 < length cs → line_of cs ≡ None
