-- Stage 2 translation, from DDI 0487 alone: VMSAv8-64, 4 KB granule, 39-bit input, start level 1, 48 output bits. Shared with the
-- walk are the index bits and the fetch.
use Rattle.std.specs.Prelude.{Option, Some, None}
use Rattle.std.specs.Prelude.{ℕ, ◌+◌, ◌*◌, ◌^◌, Bool, true, false, not, ◌&&◌, List, eqb, ltb, get_or}
use Rattle.desc.specs.Descriptor.{descriptor_type, block_type, table_type, page_type, af, page_address, block_address}
use Rattle.descent.specs.Descent.{Words, index, fetch}
use Rattle.fields.specs.Bits.{bits}
use Rattle.fields.specs.Named.{pick}
use Rattle.perm.specs.Perm.{perm_writes}
use Rattle.reach.specs.declared.Reach.{Reach}

-- what a guest does with an address; an instruction is fetched at EL0 or EL1
pub data Level : Type 0 where
  el0 : Level
  el1 : Level

pub data Access : Type 0 where
  reads : Access
  writes : Access
  executes : Level → Access

-- a machine has FEAT_XNX or not, and outside the arena its memory holds any words, by the address named and the index
pub record Machine : Type 0 where
  pub xnx : Bool
  pub elsewhere : ℕ → ℕ → ℕ

-- an access gives a byte of the output, or faults
pub data Translated : Type 0 where
  byte : ℕ → Translated
  fault : Translated

-- XN, bit 54: set is never. With FEAT_XNX, bits 54:53: 00 executes at both levels, 01 at EL0 alone, 10 at neither, 11 at EL1 alone
abbrev pub executable : Bool → Level → ℕ → Bool
executable false el d = eqb (bits 54 54 d) 0
executable true el0 d = eqb (bits 54 54 d) 0
executable true el1 d = eqb (bits 54 54 d) (bits 53 53 d)

-- S2AP, bits 7:6: bit 6 reads, bit 7 writes, so that 10 is write-only; execution is by XN
abbrev pub permits : Bool → Access → ℕ → Bool
permits xnx reads d = eqb (bits 6 6 d) 1
permits xnx writes d = eqb (bits 7 7 d) 1
permits xnx (executes el) d = executable xnx el d

-- a leaf with its output: the access flag clear faults
abbrev pub leaf : Bool → Access → ℕ → ℕ → Translated
leaf xnx a output d = pick (eqb (af d) 1 && permits xnx a d) (byte output) fault

module _ (m : Machine) (tables : List ℕ) (ws : ℕ → Words) (a : Access) (x : ℕ) where
  -- the word of the table named at a level, by its index bits; each level's read sees words of its own
  abbrev pub lookup : ℕ → ℕ → ℕ
  lookup left named = fetch (m.elsewhere named (index left x)) tables (ws left) named (index left x)

  -- level 3: 11 is a page, output 47:12
  unfoldable pub level3 : ℕ → Translated
  level3 named =
      let d = lookup 0 named in
      pick (eqb (descriptor_type d) page_type) (leaf m.xnx a (page_address d + bits 11 0 x) d) fault

  -- level 2: 11 is a table, 01 a block of 2 MiB, output 47:21
  unfoldable pub level2 : ℕ → Translated
  level2 named =
      let d = lookup 1 named in
      pick (eqb (descriptor_type d) table_type) (level3 (page_address d))
      (pick (eqb (descriptor_type d) block_type) (leaf m.xnx a (block_address d + bits 20 0 x) d) fault)

  -- level 1: 11 is a table, 01 a block of 1 GiB, output 47:30
  unfoldable pub level1 : ℕ → Translated
  level1 named =
      let d = lookup 2 named in
      pick (eqb (descriptor_type d) table_type) (level2 (page_address d))
      (pick (eqb (descriptor_type d) block_type) (leaf m.xnx a (bits 47 30 d * 2 ^ 30 + bits 29 0 x) d) fault)

  -- an input of more than 39 bits faults; the walk starts at the l1 address
  unfoldable pub translation : Translated
  translation = pick (ltb x (2 ^ 39)) (level1 (get_or tables 0 0)) fault

-- what an answer of the walk lets an access do
abbrev pub lets : Access → Reach → Bool
lets reads r = true
lets writes r = perm_writes r.perm
lets (executes el) r = not r.xn

abbrev pub allowed : Access → Option Reach → Translated
allowed a (Some r) = pick (lets a r) (byte r.pa) fault
allowed a None = fault
