-- VTTBR_EL2, by its fields in DDI 0487: BADDR in bits 47:0, VMID in bits 63:48.
use Rattle.std.specs.Prelude.{ℕ, ◌*◌, ◌%◌, ◌^◌}
use Rattle.std.specs.Int.Bits.{bit_or}
use Rattle.fields.specs.Bits.{bits}
use Rattle.sizes.specs.Codes.{vmids}
use Rattle.sizes.specs.declared.VmidBits.{VmidBits}

-- the base joined with the VMID in its place; what does not fit 64 bits is lost
abbrev pub vttbr_of : ℕ → ℕ → ℕ
vttbr_of base vmid = bit_or base (vmid * 2 ^ 48 % 2 ^ 64)

abbrev pub baddr : ℕ → ℕ
baddr = bits 47 0

-- VMID, in the width that the regime tags with
abbrev pub vmid_of : ℕ → VmidBits → ℕ
vmid_of v b = bits 63 48 v % vmids b
