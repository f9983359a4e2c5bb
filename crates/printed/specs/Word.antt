-- A printed line, by document 01 ("Proved and printed"): table (1 digit), index (3), word (16), all hexadecimal, upper case.
use Rattle.std.specs.Prelude.{ℕ, List, [], ◌∷◌, ◌++◌}
use Rattle.fields.specs.Ascii.{space, line_feed}
use Rattle.text.specs.Digits.{digits}

-- with one space between, ended by a line feed
unfoldable pub word_line : ℕ → ℕ → ℕ → List ℕ
word_line table index word =
    digits 1 table ++ (space ∷ []) ++ digits 3 index ++ (space ∷ []) ++ digits 16 word ++ (line_feed ∷ [])
