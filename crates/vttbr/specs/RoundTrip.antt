-- What is proved of VTTBR_EL2: reading gives back what was joined.
use Rattle.std.specs.Prelude.{ℕ, ◌^◌, ◌<◌, ◌≡◌}
use Rattle.sizes.specs.Codes.{vmids}
use Rattle.sizes.specs.declared.VmidBits.{VmidBits}
use Rattle.vttbr.specs.Vttbr.{vttbr_of, baddr, vmid_of}

-- a base below 2 ^ 48 and a VMID of the width come back
abbrev pub VttbrRoundTrip : Type 0
VttbrRoundTrip =
    (base vmid : ℕ) (b : VmidBits) →
    base < 2 ^ 48 → vmid < vmids b → (baddr (vttbr_of base vmid) ≡ base) × (vmid_of (vttbr_of base vmid) b ≡ vmid)
