-- The scene of a text, by document 01 ("Proved and printed"): its lines in order, up to the first that is outside the form.
use Rattle.std.specs.Prelude.{ℕ, eqb, List, [], ◌∷◌, fold, Option, Some, None}
use Rattle.fields.specs.Ascii.{line_feed}
use Rattle.fields.specs.Named.{pick}
use Rattle.scene.specs.Scene.{Scene, applied}
use Rattle.scene_line.specs.Line.{line_of}
use Rattle.scene_line.specs.declared.Line.{Line}

-- one byte more in front of the first line
abbrev pub with_byte : ℕ → List (List ℕ) → List (List ℕ)
with_byte c [] = (c ∷ []) ∷ []
with_byte c (line ∷ lines) = (c ∷ line) ∷ lines

-- a line ends with a line feed, which the last line may lack
unfoldable pub lines_of : List ℕ → List (List ℕ)
lines_of [] = []
lines_of (c ∷ cs) = pick (eqb c line_feed) ([] ∷ lines_of cs) (with_byte c (lines_of cs))

-- the scene that the lines have set: all of them, or those before the first bad one
pub data Read : Type 0 where
  whole : Scene → Read
  bad_line : Scene → Read

-- what a line sets; a line outside the form ends it
abbrev pub heard : Scene → Option Line → Read
heard s (Some line) = whole (applied s line)
heard s None = bad_line s

abbrev pub with_line : Read → List ℕ → Read
with_line (whole s) cs = heard s (line_of cs)
with_line (bad_line s) cs = bad_line s

-- a text read over a scene
unfoldable pub read_from : Scene → List ℕ → Read
read_from s text = fold with_line (whole s) (lines_of text)
