-- The same piece by piece: what the code answers, and the bytes that it puts out for each word of the arena.
use Rattle.std.specs.Prelude.{ℕ, List, [], eqb, get_or, length, Result, Ok, Err}
use Rattle.fields.specs.Named.{pick}
use Rattle.printed.specs.Line.{bad_line, refused_line}
use Rattle.dump.specs.Dump.{in_order, line_at}
use Rattle.dump.specs.declared.Undumped.{Undumped}
use Rattle.dump.specs.declared.Undumped.TheVariants.{BadLine, Refused}

-- a line that stands for the whole is the first piece
abbrev pub alone : ℕ → List ℕ → List ℕ
alone i line = pick (eqb i 0) line []

unfoldable pub piece_at : Result Unit Undumped → List ℕ → ℕ → List ℕ
piece_at (Err BadLine) words i = alone i bad_line
piece_at (Err (Refused number)) words i = alone i (refused_line number)
piece_at (Ok all) words i = line_at i (get_or words i 0)

-- a piece for each word
abbrev pub pieces : Result Unit Undumped → List ℕ → List ℕ
pieces answer words = in_order (piece_at answer words) 0 (length words)
