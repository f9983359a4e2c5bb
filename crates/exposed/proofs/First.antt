-- The first table and window, as code looks for them.
use Rattle.std.proofs.Common.{◌≡◌, ℕ, ◌+◌, ◌<◌, ◌≤◌, Bool, true, false, List, [], ◌∷◌, Option, Some, None, cond, length, drop, get_or, refl}
use Rattle.std.proofs.lemmas.List.{at_drop_more, at_drop_all}
use Rattle.std.specs.List.{find}
use Rattle.std.specs.Option.{option_map, option_or}
use Rattle.fields.specs.Named.{pick}
use Rattle.layout.specs.Layout.{table_if}
use Rattle.layout.specs.declared.Table.{Table}
use Rattle.layout.specs.declared.Window.{Window}
use Rattle.exposed.specs.Exposed.{lies_in, first_window, first_table}
use Rattle.exposed.specs.declared.Exposure.{Exposure}

abbrev pub exposed_by : Table → Window → Exposure
exposed_by t w = record { table = t.code; window = w.code }

here_or_later :
    (b : Bool) (t : Table) (w : Window) (later : Option Exposure) (found : Option Window) → later ≡ option_map (exposed_by t) found →
    pick b (Some (exposed_by t w)) later ≡ option_map (exposed_by t) (cond b (Some w) found)
here_or_later true t w later found e = refl
here_or_later false t w later found e = e

pub window_found : (t : Table) (ws : List Window) → first_window t ws ≡ option_map (exposed_by t) (find (lies_in t) ws)
unfolding first_window
window_found t [] = refl
window_found t (w ∷ ws) = here_or_later (lies_in t w) t w (first_window t ws) (find (lies_in t) ws) (window_found t ws)

-- the first table from a place on
pub tables_from :
    (ts : List Table) (i : ℕ) (ws : List Window) → i < length ts →
    first_table (drop i ts) ws ≡ option_or (first_window (get_or ts i (table_if 0 false 0)) ws) (first_table (drop (i + 1) ts) ws)
unfolding first_table
tables_from ts i ws h = at_drop_more (λ us. first_table us ws) ts i (table_if 0 false 0) h

pub tables_end : (ts : List Table) (i : ℕ) (ws : List Window) → length ts ≤ i → first_table (drop i ts) ws ≡ None
unfolding first_table
tables_end ts i ws h = at_drop_all (λ us. first_table us ws) ts i h
