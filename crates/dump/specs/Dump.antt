-- What is printed of a text, by document 01 ("Proved and printed").
use Rattle.std.specs.Prelude.{ℕ, zero, suc, List, [], ◌++◌, eqb}
use Rattle.arena.specs.Encoded.{table_of, index_of, target}
use Rattle.fields.specs.Named.{pick}
use Rattle.layout.specs.Layout.{layout_of}
use Rattle.layout.specs.Size.{dump_limit, arena_length}
use Rattle.printed.specs.Line.{bad_line as badLineText, refused_line}
use Rattle.printed.specs.Word.{word_line}
use Rattle.refusal.specs.Table.{Outcome, accepted, refused, first}
use Rattle.rows.specs.Rows.{guard_rows}
use Rattle.scene.specs.Scene.{Scene, unset}
use Rattle.scene_text.specs.Text.{Read, whole, bad_line, read_from}

-- n texts from the i-th on, one after the other
unfoldable pub in_order : (ℕ → List ℕ) → ℕ → ℕ → List ℕ
in_order text i zero = []
in_order text i (suc n) = text i ++ in_order text (suc i) n

-- the line of word i of the arena, if it is not 0: its table, its index and the word
unfoldable pub line_at : ℕ → ℕ → List ℕ
line_at i w = pick (eqb w 0) [] (word_line (table_of i) (index_of i) w)

-- a refused scene prints its row's number, another the words of zeroed tables after encoding, in table and index order
abbrev pub printed_by : Outcome → (ℕ → ℕ) → List ℕ
printed_by (refused r) word = refused_line r.number
printed_by accepted word = in_order (λ i. line_at i (word i)) 0 arena_length

-- the rows by limits of the dump's own
unfoldable pub printed_of : Scene → List ℕ
printed_of s =
    let l = layout_of s.numbers in
    printed_by (first (guard_rows dump_limit s.base s.sup l)) (target l s.base s.sup)

abbrev pub printed_read : Read → List ℕ
printed_read (whole s) = printed_of s
printed_read (bad_line s) = badLineText

-- the bytes that are printed of the bytes that are read
unfoldable pub dump : List ℕ → List ℕ
dump text = printed_read (read_from unset text)
