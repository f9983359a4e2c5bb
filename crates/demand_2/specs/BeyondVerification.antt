-- Verification's yes does not bound a walk: S's encoded words with one changed, which it accepts (`VerificationS` of `verify_theorems`),
-- and what an address then reaches that S does not grant.
use Rattle.std.specs.Prelude.{Option, None}
use Rattle.reach.specs.declared.Reach.{Reach}
use Rattle.std.specs.Prelude.{ℕ, ◌+◌, ◌*◌, true, false, ◌≡◌, eqb}
use Rattle.arena.specs.Encoded.{target}
use Rattle.demand_2.specs.Demand2.{addresses_of}
use Rattle.demand_2.specs.Tabled.{S, reach}
use Rattle.descent.specs.Descent.{Words}
use Rattle.fields.specs.Named.{pick}
use Rattle.layout.specs.Size.{entries}
use Rattle.perm.specs.declared.Perm.TheVariants.{Rw}
use Rattle.rows.specs.Examples.{base_s, sup_s}
use Rattle.walk.specs.Walk.{walk_of}
use Rattle.window_reach.specs.Granted.{granted}

abbrev pub changed : ℕ → ℕ → Words
changed k d i = pick (eqb i k) d (target S base_s sup_s i)

abbrev pub walked_with : ℕ → ℕ → ℕ → Option Reach
walked_with k d x = walk_of (addresses_of S) (λ left. changed k d) x

abbrev pub granted_s : ℕ → Option Reach
granted_s x = granted S base_s sup_s x

pub record BeyondVerification : Type 0 where
  -- a table word in an empty super slot
  pub word_of_table : walked_with (4 * entries + 0) 0x0000_0000_4000_3003 0xC000_1000 ≡ reach 0x5000_1000 Rw true
  pub table_word_granted : granted_s 0xC000_1000 ≡ None
  -- a Normal block in an empty device slot
  pub normal_block : walked_with (5 * entries + 0x49) 0x0000_0000_5000_07FD 0x920_0000 ≡ reach 0x5000_0000 Rw false
  pub normal_block_granted : granted_s 0x920_0000 ≡ None
  -- a device's block with its access stripped
  pub no_access : walked_with (5 * entries + 0x48) 0x0040_0000_0900_0401 0x900_0018 ≡ None
  pub no_access_granted : granted_s 0x900_0018 ≡ reach 0x900_0018 Rw true
