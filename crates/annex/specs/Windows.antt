-- The windows of an accepted layout, as the code goes through them: piece by piece, or as one.
use Rattle.std.specs.Prelude.{Option, Some, None, Contains}
use Rattle.std.specs.Option.{ForSome}
use Rattle.reach.specs.declared.Reach.{Reach}
use Rattle.std.specs.Prelude.{ℕ, ◌%◌, ◌≤◌, ◌<◌, Bool, true, false, ◌&&◌, List, map, ◌≡◌, eqb, get_or}
use Rattle.accepted_facts.specs.Accepted.{Within}
use Rattle.fields.specs.Named.{pick}
use Rattle.layout.specs.Size.{entries, page, block, board_limit}
use Rattle.layout.specs.Window.{slot}
use Rattle.layout.specs.declared.Window.{Window}
use Rattle.perm.specs.Perm.{perm_code}
use Rattle.perm.specs.declared.Perm.TheVariants.{Rx}
use Rattle.refusal.specs.All.{All, AllPairs}
use Rattle.window_reach.specs.Granted.{Region, region, device_region, granted_by}

-- the region of a window, by the window's code: image, data, super, or a device
abbrev pub region_in : List ℕ → List ℕ → Bool → Window → Region
region_in base sup exempt w =
    pick (eqb w.code 1) (region w block (λ p. perm_code Rx) false)
    (pick (eqb w.code 2) (region w page (λ p. get_or base p 0) false)
    (pick (eqb w.code 3) (region w block (λ p. get_or sup p 0) exempt) (device_region w)))

abbrev pub granted_over : List ℕ → List ℕ → Bool → List Window → ℕ → Option Reach
granted_over base sup exempt ws x = granted_by (map (region_in base sup exempt) ws) x

-- a window that is present in this slot
abbrev pub has_slot : ℕ → Window → Bool
has_slot s w = w.present && eqb (slot w) s

-- the slot of the next window; the count of slots where none is left
abbrev pub next_slot : Option Window → ℕ
next_slot (Some w) = slot w
next_slot None = entries

-- a window that is present in a slot from `from` on; no slot from there on and before its own has a window
pub record NextWindow (ws : List Window) (from : ℕ) (next : Option Window) : Type 0 where
  pub there : ForSome next (λ w. (w.present ≡ true) × (from ≤ slot w) × Contains ws w)
  pub none : (s : ℕ) → from ≤ s → s < next_slot next → All (λ w. has_slot s w ≡ false) ws

-- a window that is present lies in one slot of table 1; it is whole pages or blocks, and one that no map is read for has some
pub record Sited (w : Window) : Type 0 where
  pub within : Within board_limit w
  pub pages : w.code ≡ 2 → w.span % page ≡ 0
  pub blocks : (w.code ≡ 2 → ⊥) → w.span % block ≡ 0
  pub some : (w.code ≡ 2 → ⊥) → (w.code ≡ 3 → ⊥) → 0 < w.span

-- windows that are present have slots of their own
pub record Placed (ws : List Window) : Type 0 where
  pub each : All (λ w. w.present ≡ true → Sited w) ws
  pub apart : AllPairs (λ v w. v.present ≡ true → w.present ≡ true → slot v ≡ slot w → ⊥) ws
