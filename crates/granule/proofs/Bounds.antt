-- The ranges of the parameters, and that no code outgrows its field.
use Prim.Native.Nat.{◌≤◌, ◌<◌}
use native.Mathlib.Omega.{arith}
use Rattle.granule.specs.Granule.{page_bits, level_bits, tg0}
use Rattle.granule.specs.StartLevel.{sl0, span}
use Rattle.granule.specs.declared.Granule.TheVariants.{K4, K16, K64}
use Rattle.granule.specs.declared.Granule.{Granule}
use Rattle.granule.specs.declared.StartLevel.TheVariants.{L0, L1, L2, L3}
use Rattle.granule.specs.declared.StartLevel.{StartLevel}

pub page_range : (g : Granule) → (12 ≤ page_bits g) × (page_bits g ≤ 16)
page_range K4 = omega arith
page_range K16 = omega arith
page_range K64 = omega arith

-- the walk resolves an index at least
pub span_range : (l : StartLevel) (g : Granule) → (level_bits g ≤ span l g) × (span l g ≤ 68)
unfolding span
span_range L0 K4 = omega arith
span_range L0 K16 = omega arith
span_range L0 K64 = omega arith
span_range L1 K4 = omega arith
span_range L1 K16 = omega arith
span_range L1 K64 = omega arith
span_range L2 K4 = omega arith
span_range L2 K16 = omega arith
span_range L2 K64 = omega arith
span_range L3 K4 = omega arith
span_range L3 K16 = omega arith
span_range L3 K64 = omega arith

pub tg0_range : (g : Granule) → tg0 g < 4
tg0_range K4 = omega arith
tg0_range K16 = omega arith
tg0_range K64 = omega arith

pub sl0_range : (l : StartLevel) → sl0 l < 4
sl0_range L0 = omega arith
sl0_range L1 = omega arith
sl0_range L2 = omega arith
sl0_range L3 = omega arith
