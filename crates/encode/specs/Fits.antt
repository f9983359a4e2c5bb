-- What the stores rely on where rows 1 to 14 have let a call by: no window leaves its table.
use Rattle.std.specs.Prelude.{ℕ, ◌+◌, ◌/◌, ◌≤◌, ◌<◌, List, ◌≡◌, length, get_or}
use Rattle.layout.specs.Size.{entries, block}
use Rattle.layout.specs.Window.{l2_slot}
use Rattle.layout.specs.declared.Layout.{Layout}
use Rattle.layout.specs.declared.Window.{Window}

-- a mapped super is one of sup_frames, and has a slot of its own in table 5
pub record SupersFit (l : Layout) (sup : List ℕ) : Type 0 where
  pub short : length sup ≤ entries
  pub slots : (p : ℕ) → p < length sup → (get_or sup p 0 ≡ 0 → ⊥) → l2_slot l.sup_ipa_base + p < entries
  pub backed : (p : ℕ) → p < length sup → (get_or sup p 0 ≡ 0 → ⊥) → p < l.sup_frames

-- the blocks of a device window have slots of their own in its table
abbrev pub DeviceFits : Window → Type 0
DeviceFits w = l2_slot w.ipa + w.span / block ≤ entries
