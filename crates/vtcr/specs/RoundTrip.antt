-- What is proved of VTCR_EL2: decoding gives back what was encoded.
use Rattle.std.specs.Prelude.{Some, ℕ, true, ◌≡◌}
use Rattle.regime.specs.Regime.{valid_regime, baleen_stage2}
use Rattle.regime.specs.declared.Stage2Regime.{Stage2Regime}
use Rattle.sizes.specs.declared.VmidBits.TheVariants.{B8}
use Rattle.sizes.specs.declared.VmidBits.{VmidBits}
use Rattle.vtcr.specs.Vtcr.{vtcr_of, decoded_vtcr}

-- every valid regime has a value, which decodes to it
abbrev pub VtcrRoundTrip : Type 0
VtcrRoundTrip =
    (r : Stage2Regime) (b : VmidBits) →
    valid_regime r ≡ true → (v : ℕ) × (vtcr_of r b ≡ Some v) × (decoded_vtcr v ≡ Some (r, b))

-- the regime that is run has the value that the board was given
abbrev pub BaleenValue : Type 0
BaleenValue = vtcr_of baleen_stage2 B8 ≡ Some 0x8002_3559
