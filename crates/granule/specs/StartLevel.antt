-- The start level, by DDI 0487: the bits of an address that a walk from it resolves, and SL0 of VTCR_EL2.
use Rattle.std.specs.Prelude.{Option, Some, None, ℕ, ◌+◌, ◌-◌, ◌*◌, [], ◌∷◌}
use Rattle.fields.specs.Named.{named}
use Rattle.granule.specs.Granule.{page_bits, level_bits}
use Rattle.granule.specs.declared.Granule.{Granule}
use Rattle.granule.specs.declared.StartLevel.TheVariants.{L0, L1, L2, L3}
use Rattle.granule.specs.declared.StartLevel.{StartLevel}

abbrev pub number : StartLevel → ℕ
number L0 = 0
number L1 = 1
number L2 = 2
number L3 = 3

-- the offset, and an index for each level from this one to level 3
unfoldable pub span : StartLevel → Granule → ℕ
span l g = page_bits g + (4 - number l) * level_bits g

-- SL0, bits 7:6: 00 is level 2, 01 level 1, 10 level 0, 11 level 3
abbrev pub sl0 : StartLevel → ℕ
sl0 L2 = 0b00
sl0 L1 = 0b01
sl0 L0 = 0b10
sl0 L3 = 0b11

abbrev pub level_named : ℕ → Option StartLevel
level_named = named sl0 (L2 ∷ L1 ∷ L0 ∷ L3 ∷ []) Some None
