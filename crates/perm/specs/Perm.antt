-- Leaf permissions, by document 01 ("Leaf maps"): entries 1 Ro, 2 Rw, 3 Rx; 0 is unmapped.
use Rattle.std.specs.Prelude.{Some, None, Option}
use Rattle.std.specs.Prelude.{ℕ, ◌≤◌, Bool, true, false, [], ◌∷◌, ◌≡◌}
use Rattle.fields.specs.Named.{named}
use Rattle.perm.specs.declared.Perm.TheVariants.{Ro, Rw, Rx}
use Rattle.perm.specs.declared.Perm.{Perm}

abbrev pub perm_code : Perm → ℕ
perm_code Ro = 1
perm_code Rw = 2
perm_code Rx = 3

abbrev pub perm_writes : Perm → Bool
perm_writes Ro = false
perm_writes Rw = true
perm_writes Rx = false

abbrev pub perm_executes : Perm → Bool
perm_executes Ro = false
perm_executes Rw = false
perm_executes Rx = true

abbrev pub entry_code : Option Perm → ℕ
entry_code (Some p) = perm_code p
entry_code None = 0

-- what a byte of a map says: a permission, by its code, or unmapped
abbrev pub entry_named : ℕ → Option Perm
entry_named = named perm_code (Ro ∷ Rw ∷ Rx ∷ []) Some None

-- entries and the bytes that row 3 lets by are the same
pub record EntriesName : Type 0 where
  pub back : (e : Option Perm) → entry_named (entry_code e) ≡ e
  pub only : (n : ℕ) → n ≤ 3 → entry_code (entry_named n) ≡ n
