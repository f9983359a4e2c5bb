-- The translation granule, by DDI 0487: the bits of an address that a page and a level take, and TG0 of VTCR_EL2.
use Rattle.std.specs.Prelude.{Option, Some, None, ℕ, ◌-◌, [], ◌∷◌}
use Rattle.fields.specs.Named.{named}
use Rattle.granule.specs.declared.Granule.TheVariants.{K4, K16, K64}
use Rattle.granule.specs.declared.Granule.{Granule}

-- the offset in a page of 4, 16 or 64 KB
abbrev pub page_bits : Granule → ℕ
page_bits K4 = 12
page_bits K16 = 14
page_bits K64 = 16

-- the index into a table that is one page of 8-byte words
abbrev pub level_bits : Granule → ℕ
level_bits g = page_bits g - 3

-- TG0, bits 15:14: 00 is 4 KB, 01 is 64 KB, 10 is 16 KB
abbrev pub tg0 : Granule → ℕ
tg0 K4 = 0b00
tg0 K64 = 0b01
tg0 K16 = 0b10

abbrev pub granule_named : ℕ → Option Granule
granule_named = named tg0 (K4 ∷ K64 ∷ K16 ∷ []) Some None
