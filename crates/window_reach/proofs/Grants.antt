-- What the regions grant, window by window.
use Rattle.std.specs.Prelude.{Option, Some, None, option_and_then}
use Prim.Native.Nat.{ℕ}
use mathlib.Core.Bool.{Bool, true, false, cond}
use mathlib.Core.List.{List, [], ◌∷◌, map}
use mathlib.Core.Path.{◌≡◌, refl, ap, ◌∙◌}
use Rattle.std.specs.List.{find}
use Rattle.fields.specs.Named.{pick}
use Rattle.layout.specs.Window.{window}
use Rattle.layout.specs.declared.Window.{Window}
use Rattle.reach.specs.declared.Reach.{Reach}
use Rattle.refusal.specs.All.{All}
use Rattle.window_reach.specs.Granted.{Region, device_region, contains, granted_in, granted_by}

module _ (r : Region) (rs : List Region) (x : ℕ) where
  pub grant_here : contains r.window x ≡ true → granted_by (r ∷ rs) x ≡ granted_in r x
  unfolding granted_by
  grant_here e = rw e

  pub grant_past : contains r.window x ≡ false → granted_by (r ∷ rs) x ≡ granted_by rs x
  unfolding granted_by
  grant_past e = rw e

pub granted_none : (rs : List Region) (x : ℕ) → All (λ r. contains r.window x ≡ false) rs → granted_by rs x ≡ None
unfolding granted_by
granted_none [] x none = refl
granted_none (r ∷ rs) x none = rw none.0 (granted_none rs x none.1)

-- the devices, as code looks for one

here_or_later :
    (b : Bool) (f : Window → Option Reach) (w : Window) (later : Option Reach) (found : Option Window) → later ≡ option_and_then f found →
    pick b (f w) later ≡ option_and_then f (cond b (Some w) found)
here_or_later true f w later found e = refl
here_or_later false f w later found e = e

as_found :
    (ds : List Window) (x : ℕ) →
    granted_by (map device_region ds) x ≡ option_and_then (λ d. granted_in (device_region d) x) (find (λ d. contains d x) ds)
unfolding granted_by
as_found [] x = refl
as_found (w ∷ ds) x =
    here_or_later (contains w x) (λ d. granted_in (device_region d) x) w (granted_by (map device_region ds) x) (find (λ d. contains d x) ds)
    (as_found ds x)

pub device_found :
    (ds : List Window) (x : ℕ) (found : Option Window) →
    find (λ d. contains d x) ds ≡ found → granted_by (map device_region ds) x ≡ option_and_then (λ d. granted_in (device_region d) x) found
device_found ds x found e = as_found ds x ∙ ap (option_and_then (λ d. granted_in (device_region d) x)) e

-- what is read past the end of a list of windows
abbrev pub no_window : Window
no_window = window 0 false 0 0 0
