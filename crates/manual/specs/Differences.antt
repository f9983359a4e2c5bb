-- Where the Rust's walk differs from the manual, each by a word. Two tables, at 1000 and 2000; the address is 0.
use Rattle.std.specs.Prelude.{Option, Some, None}
use Rattle.reach.specs.declared.Reach.{Reach}
use Rattle.std.specs.Prelude.{ℕ, Bool, true, false, List, [], ◌∷◌, ◌≡◌, eqb}
use Rattle.descent.specs.Descent.{Words}
use Rattle.fields.specs.Named.{pick}
use Rattle.manual.specs.Translation.{Level, el1, Access, reads, writes, executes, Machine, Translated, byte, fault, translation}
use Rattle.perm.specs.declared.Perm.TheVariants.{Ro}
use Rattle.walk.specs.Walk.{walk_of}

abbrev pub tables : List ℕ
tables = 0x1000 ∷ 0x2000 ∷ []

-- word 0 of table 1; and one that names table 2, with word 0 of table 2
abbrev pub in_l1 : ℕ → Words
in_l1 d i = pick (eqb i 0) d 0

abbrev pub in_l2 : ℕ → Words
in_l2 d i = pick (eqb i 0) 0x2003 (pick (eqb i 512) d 0)

abbrev pub walked : Words → Option Reach
walked words = walk_of tables (λ left. words) 0

-- a machine with FEAT_XNX or not, whose memory outside holds one word everywhere
abbrev pub machine : Bool → ℕ → Machine
machine xnx w = record { xnx = xnx; elsewhere = λ named j. w }

abbrev pub done : Machine → Words → Access → Translated
done m words a = translation m tables (λ left. words) a 0

abbrev pub reach_ro : Bool → Option Reach
reach_ro never = Some (record { pa = 0; perm = Ro; xn = never })

pub record Differences : Type 0 where
  -- the access flag clear: reached, and faults
  pub flag_walked : walked (in_l2 0x37D) ≡ reach_ro false
  pub flag : (m : Machine) (a : Access) → done m (in_l2 0x37D) a ≡ fault
  -- a block at level 1: nothing, and 1 GiB
  pub l1_block_walked : walked (in_l1 0x77D) ≡ None
  pub l1_block : (m : Machine) → done m (in_l1 0x77D) reads ≡ byte 0
  -- access 10: nothing, and write-only
  pub write_only_walked : walked (in_l2 0x0040_0000_0000_07BD) ≡ None
  pub write_only : (m : Machine) → done m (in_l2 0x0040_0000_0000_07BD) writes ≡ byte 0
  pub write_only_read : (m : Machine) → done m (in_l2 0x0040_0000_0000_07BD) reads ≡ fault
  -- access 00 or 10 with XN clear: nothing, and executed
  pub execute_00_walked : walked (in_l2 0x73D) ≡ None
  pub execute_00 : (w : ℕ) (el : Level) → done (machine false w) (in_l2 0x73D) (executes el) ≡ byte 0
  pub execute_10_walked : walked (in_l2 0x7BD) ≡ None
  pub execute_10 : (w : ℕ) (el : Level) → done (machine false w) (in_l2 0x7BD) (executes el) ≡ byte 0
  -- bits 54:53 are 11: never, and with FEAT_XNX executed at EL1
  pub xnx_11_walked : walked (in_l2 0x0060_0000_0000_077D) ≡ reach_ro true
  pub xnx_11 : (w : ℕ) → done (machine true w) (in_l2 0x0060_0000_0000_077D) (executes el1) ≡ byte 0
  pub no_xnx_11 : (w : ℕ) (el : Level) → done (machine false w) (in_l2 0x0060_0000_0000_077D) (executes el) ≡ fault
  -- bits 54:53 are 01: executable, and with FEAT_XNX not at EL1
  pub xnx_01_walked : walked (in_l2 0x0020_0000_0000_077D) ≡ reach_ro false
  pub xnx_01 : (w : ℕ) → done (machine true w) (in_l2 0x0020_0000_0000_077D) (executes el1) ≡ fault
  -- a table outside the arena: nothing, and what stands there
  pub outside_walked : walked (in_l1 0x3003) ≡ None
  pub outside : done (machine false 0x77D) (in_l1 0x3003) reads ≡ byte 0
