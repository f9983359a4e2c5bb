-- The functions 16 to 18: the decoding of VTCR_EL2, and VTTBR_EL2.
use Rattle.regime.specs.declared.Stage2Regime.{Stage2Regime}
use Rattle.sizes.specs.declared.VmidBits.{VmidBits}
use Rattle.std.specs.Prelude.{Option, ℕ, ◌+◌, List, [], ◌∷◌}
use Rattle.fields.specs.Numbers.{eight}
use Rattle.granule.specs.Granule.{tg0}
use Rattle.granule.specs.StartLevel.{sl0}
use Rattle.probe_numbers.specs.Zeros.{or_zeros}
use Rattle.sizes.specs.Codes.{ps, vs}
use Rattle.sizes.specs.declared.VmidBits.TheVariants.{B8, B16}
use Rattle.vttbr.specs.Vttbr.{baddr, vmid_of}

-- 16: one more than VS, so that it is not nothing, then the regime's fields in the struct's order
abbrev pub regime_fields : Stage2Regime × VmidBits → List ℕ
regime_fields (r, b) =
    (vs b + 1)
    ∷ tg0 r.granule
    ∷ r.ipa_bits
    ∷ sl0 r.start_level
    ∷ ps r.pa_size
    ∷ r.walk_shareability
    ∷ r.walk_inner
    ∷ r.walk_outer
    ∷ []

abbrev pub decoded_numbers : Option (Stage2Regime × VmidBits) → List ℕ
decoded_numbers = or_zeros regime_fields

-- 18: the base, and the VMID in both widths
abbrev pub part_numbers : ℕ → List ℕ
part_numbers v = eight (baddr v ∷ vmid_of v B8 ∷ vmid_of v B16 ∷ [])
