-- Which table lies in which output window: a guest that reaches it could write its own translation.
use Rattle.std.specs.Prelude.{ℕ, ◌+◌, Bool, ◌&&◌, List, [], ◌∷◌, Option, Some, None, leb, ltb}
use Rattle.std.specs.Option.{option_or}
use Rattle.fields.specs.Named.{pick}
use Rattle.layout.specs.Layout.{tables_of}
use Rattle.layout.specs.Window.{windows_of}
use Rattle.layout.specs.declared.Layout.{Layout}
use Rattle.layout.specs.declared.Table.{Table}
use Rattle.layout.specs.declared.Window.{Window}
use Rattle.exposed.specs.declared.Exposure.{Exposure}

-- a table begins in the output of a window that is present; both are whole pages, so that it lies there whole
abbrev pub lies_in : Table → Window → Bool
lies_in t w = t.present && w.present && leb w.pa t.pa && ltb t.pa (w.pa + w.span)

-- the lowest window
unfoldable pub first_window : Table → List Window → Option Exposure
first_window t [] = None
first_window t (w ∷ ws) = pick (lies_in t w) (Some (record { table = t.code; window = w.code })) (first_window t ws)

-- the lowest table, and then its lowest window
unfoldable pub first_table : List Table → List Window → Option Exposure
first_table [] ws = None
first_table (t ∷ ts) ws = option_or (first_window t ws) (first_table ts ws)

-- none where no table lies in a window
abbrev pub exposure : Layout → Option Exposure
exposure l = first_table (tables_of l) (windows_of l)

-- 1, table and window
abbrev pub exposure_values : Exposure → List ℕ
exposure_values e = 1 ∷ e.table ∷ e.window ∷ []
