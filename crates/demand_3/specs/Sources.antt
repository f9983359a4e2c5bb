-- What grants: a source, the maps that are filled from it, and its granted answer, by document 01 ("Update").
use Rattle.std.specs.Prelude.{Option}
use Rattle.reach.specs.declared.Reach.{Reach}
use Rattle.std.specs.Prelude.{ℕ, List, ◌≡◌}
use Rattle.edge.specs.declared.Edge.{Edge}
use Rattle.filling.specs.Filling.{Filling, filling, filled_into, filled}
use Rattle.layout.specs.Size.{entries}
use Rattle.layout.specs.declared.Layout.{Layout}
use Rattle.refusal.specs.Table.{accepted}
use Rattle.window_reach.specs.Granted.{granted}

-- edges, with one frame list and one domain, and a layout with its windows
pub record Source : Type 0 where
  pub edges : List Edge
  pub frames : List (List ℕ)
  pub domain : ℕ
  pub layout : Layout

-- edges grant by the entries that the filling rule gives, in maps of 512
abbrev pub maps_of : Source → Filling
maps_of s = filled_into s.frames s.domain s.edges entries entries

abbrev pub granted_from : Source → ℕ → Option Reach
granted_from s x = granted s.layout (maps_of s).base (maps_of s).sup x

-- maps that are filled from the source, accepted, whatever was lent to the filling
pub record FilledFrom (s : Source) (base sup : List ℕ) : Type 0 where
  pub lent_base : List ℕ
  pub lent_sup : List ℕ
  pub fills : filled s.frames s.domain s.edges lent_base lent_sup ≡ filling base sup accepted
