-- No row compares tables with outputs: where no table lies in an output window, no address walks to a byte of a table.
use Rattle.std.specs.Prelude.{Some}
use Rattle.std.specs.Prelude.{ℕ, ◌+◌, ◌≤◌, ◌<◌, true, false, List, [], ◌∷◌, ◌≡◌}
use Rattle.arena.specs.Encoded.{target}
use Rattle.demand_2.specs.Demand2.{addresses_of}
use Rattle.demand_2.specs.Tabled.{reach}
use Rattle.descent.specs.Descent.{Words}
use Rattle.exposed.specs.Exposed.{lies_in, exposure}
use Rattle.layout.specs.Layout.{layout_of, tables_of}
use Rattle.layout.specs.Size.{page, board_limit, arena_length}
use Rattle.layout.specs.Window.{windows_of}
use Rattle.layout.specs.declared.Layout.{Layout}
use Rattle.layout.specs.declared.Table.{Table}
use Rattle.perm.specs.declared.Perm.TheVariants.{Rw}
use Rattle.reach.specs.declared.Reach.{Reach}
use Rattle.refusal.specs.All.{All}
use Rattle.refusal.specs.Table.{accepted, first}
use Rattle.rows.specs.Examples.{scene_s, line, guarded}
use Rattle.rows.specs.Rows.{guard_rows}
use Rattle.walk.specs.Walk.{walk_of}
use Rattle.window_reach.specs.Granted.{granted}

-- a byte of one of its 512 words
abbrev pub ByteOf : Table → ℕ → Type 0
ByteOf t pa = (t.pa ≤ pa) × (pa < t.pa + page)

abbrev pub OutOfReach : Type 0
OutOfReach =
    (l : Layout) (base sup : List ℕ) (words : Words) →
    first (guard_rows board_limit base sup l) ≡ accepted →
    ((i : ℕ) → i < arena_length → words i ≡ target l base sup i) →
    All (λ t. All (λ w. lies_in t w ≡ false) (windows_of l)) (tables_of l) →
    (x : ℕ) (r : Reach) →
    walk_of (addresses_of l) (λ left. words) x ≡ Some r → All (λ t. t.present ≡ true → ByteOf t r.pa → ⊥) (tables_of l)

-- S with data pa 40000000 and base 0 Rw is accepted, and l1 is handed to the guest
abbrev pub handed_s : List ℕ
handed_s = line 9 0x4000_0000 scene_s

pub record TableHandedOut : Type 0 where
  pub lets_by : guarded arena_length (2 ∷ []) [] handed_s ≡ accepted
  pub reached : granted (layout_of handed_s) (2 ∷ []) [] 0x8000_0000 ≡ reach 0x4000_0000 Rw true
  pub told : exposure (layout_of handed_s) ≡ Some (record { table = 1; window = 2 })
