-- Entries and the bytes that row 3 lets by are the same.
use Rattle.std.specs.Prelude.{Some, None, Option}
use Rattle.perm.specs.declared.Perm.{Perm}
use Prim.Native.Nat.{ℕ, zero, suc, ◌≤◌}
use mathlib.Core.Path.{◌≡◌, refl}
use native.Mathlib.Omega.{arith}
use Rattle.perm.specs.Perm.{EntriesName, entry_code, entry_named}
use Rattle.perm.specs.declared.Perm.TheVariants.{Ro, Rw, Rx}

back : (e : Option Perm) → entry_named (entry_code e) ≡ e
back (Some Ro) = refl
back (Some Rw) = refl
back (Some Rx) = refl
back None = refl

only : (n : ℕ) → n ≤ 3 → entry_code (entry_named n) ≡ n
only zero h = refl
only (suc zero) h = refl
only (suc (suc zero)) h = refl
only (suc (suc (suc zero))) h = refl
only (suc (suc (suc (suc n)))) h = absurd (omega (arith, h))

pub entries_name : EntriesName
entries_name = record { back = back; only = only }
