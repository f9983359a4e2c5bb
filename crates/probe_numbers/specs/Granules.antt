-- The functions 11 to 14: granules, start levels, output sizes and widths of VMIDs.
use Rattle.granule.specs.declared.Granule.{Granule}
use Rattle.granule.specs.declared.StartLevel.{StartLevel}
use Rattle.sizes.specs.declared.PaSize.{PaSize}
use Rattle.std.specs.Prelude.{Option, Some, None, ℕ, List, [], ◌∷◌}
use Rattle.fields.specs.Named.{named}
use Rattle.granule.specs.Granule.{page_bits, level_bits, tg0}
use Rattle.granule.specs.StartLevel.{number, sl0, span}
use Rattle.granule.specs.declared.Granule.TheVariants.{K4, K16, K64}
use Rattle.probe_numbers.specs.Zeros.{or_zeros}
use Rattle.sizes.specs.Codes.{ps, vs, vmids}
use Rattle.sizes.specs.declared.VmidBits.TheVariants.{B8, B16}
use Rattle.sizes.specs.declared.VmidBits.{VmidBits}

-- 11: a granule by TG0
abbrev pub granule_numbers : Option Granule → List ℕ
granule_numbers = or_zeros (λ g. 1 ∷ page_bits g ∷ level_bits g ∷ tg0 g ∷ [])

-- 12: a start level by SL0
abbrev pub start_level_numbers : Option StartLevel → List ℕ
start_level_numbers = or_zeros (λ l. 1 ∷ number l ∷ sl0 l ∷ span l K4 ∷ span l K16 ∷ span l K64 ∷ [])

-- 13: an output size by PS
abbrev pub size_numbers : Option PaSize → List ℕ
size_numbers = or_zeros (λ s. 1 ∷ ps s ∷ [])

-- 14: the width of a VMID by VS
abbrev pub width_named : ℕ → Option VmidBits
width_named = named vs (B8 ∷ B16 ∷ []) Some None

abbrev pub width_numbers : Option VmidBits → List ℕ
width_numbers = or_zeros (λ b. 1 ∷ vs b ∷ vmids b ∷ [])
