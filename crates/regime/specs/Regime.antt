-- A stage-2 translation regime, by DDI 0487: what makes it valid, and what it determines.
use Rattle.std.specs.Prelude.{Option, Some, None, ℕ, ◌-◌, ◌*◌, ◌^◌, max, Bool, ◌&&◌, leb, ltb}
use Rattle.fields.specs.Named.{pick}
use Rattle.granule.specs.Granule.{page_bits, level_bits}
use Rattle.granule.specs.StartLevel.{span}
use Rattle.granule.specs.declared.Granule.TheVariants.{K4}
use Rattle.granule.specs.declared.StartLevel.TheVariants.{L1}
use Rattle.regime.specs.declared.Stage2Regime.{Stage2Regime}
use Rattle.sizes.specs.declared.PaSize.TheVariants.{B40}

-- what the walk resolves below its start level
unfoldable pub below : Stage2Regime → ℕ
below r = span r.start_level r.granule - level_bits r.granule

-- the input has at most 48 bits and more than a page's; the start level resolves it and the next does not
unfoldable pub input_fits : Stage2Regime → Bool
input_fits r =
    leb r.ipa_bits 48
    && ltb (page_bits r.granule) r.ipa_bits
    && leb r.ipa_bits (span r.start_level r.granule)
    && ltb (below r) r.ipa_bits

-- and the attributes of the walk's fetches have two bits each
unfoldable pub valid_regime : Stage2Regime → Bool
valid_regime r =
    input_fits r && leb r.walk_shareability 0b11 && leb r.walk_inner 0b11 && leb r.walk_outer 0b11

-- T0SZ: the input size as a shrink from 64 bits
abbrev pub t0sz_of : Stage2Regime → Option ℕ
t0sz_of r = pick (leb r.ipa_bits 64) (Some (64 - r.ipa_bits)) None

-- the start level's table has 8 bytes for each value of the bits that it resolves, and is aligned to its size, at least to 64 bytes;
-- None where the input has fewer bits than the walk resolves below, or where the size is no 64-bit number
abbrev pub table_align : Stage2Regime → Option ℕ
table_align r =
    pick (leb (below r) r.ipa_bits && ltb (r.ipa_bits - below r) 61)
    (Some (max 64 (8 * 2 ^ (r.ipa_bits - below r))))
    None

-- the regime that is run
abbrev pub baleen_stage2 : Stage2Regime
baleen_stage2 =
    record {
      granule = K4;
      ipa_bits = 39;
      start_level = L1;
      pa_size = B40;
      walk_shareability = 0b11;
      walk_inner = 0b01;
      walk_outer = 0b01;
    }
