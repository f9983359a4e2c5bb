-- What is printed of a text that describes a scene: its annex page, by request M-100.
use Rattle.std.specs.Prelude.{ℕ, List}
use Rattle.annex.specs.Annex.{annex_page}
use Rattle.layout.specs.Layout.{layout_of}
use Rattle.layout.specs.Size.{board_limit}
use Rattle.printed.specs.Line.{bad_line as badLineText, refused_line}
use Rattle.refusal.specs.Table.{Outcome, accepted, refused, first}
use Rattle.rows.specs.Rows.{guard_rows}
use Rattle.scene.specs.Scene.{Scene, unset}
use Rattle.scene_text.specs.Text.{Read, whole, bad_line, read_from}

-- a refused scene prints its row's number, another its page
abbrev pub annex_by : Outcome → List ℕ → List ℕ
annex_by (refused r) page = refused_line r.number
annex_by accepted page = page

-- rows 2 to 14: there is room for the longest page, so that 27 does not apply
unfoldable pub annex_scene : Scene → List ℕ
annex_scene s =
    let l = layout_of s.numbers in
    annex_by (first (guard_rows board_limit s.base s.sup l)) (annex_page l s.base s.sup)

-- a line outside the form prints BAD LINE
abbrev pub annex_read : Read → List ℕ
annex_read (whole s) = annex_scene s
annex_read (bad_line s) = badLineText

-- the bytes that are printed of the bytes that are read
unfoldable pub annex_text : List ℕ → List ℕ
annex_text text = annex_read (read_from unset text)
