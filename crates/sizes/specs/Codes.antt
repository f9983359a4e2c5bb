-- The output size and the width of a VMID, with their codes in VTCR_EL2, by DDI 0487.
use Rattle.std.specs.Prelude.{Option, Some, None, ℕ, ◌^◌, [], ◌∷◌, eqb}
use Rattle.fields.specs.Named.{pick, named}
use Rattle.sizes.specs.declared.PaSize.TheVariants.{B32, B36, B40, B42, B44, B48, B52}
use Rattle.sizes.specs.declared.PaSize.{PaSize}
use Rattle.sizes.specs.declared.VmidBits.TheVariants.{B8, B16}
use Rattle.sizes.specs.declared.VmidBits.{VmidBits}

-- PS, bits 18:16
abbrev pub ps : PaSize → ℕ
ps B32 = 0b000
ps B36 = 0b001
ps B40 = 0b010
ps B42 = 0b011
ps B44 = 0b100
ps B48 = 0b101
ps B52 = 0b110

abbrev pub size_named : ℕ → Option PaSize
size_named = named ps (B32 ∷ B36 ∷ B40 ∷ B42 ∷ B44 ∷ B48 ∷ B52 ∷ []) Some None

-- VS, bit 19
abbrev pub vs : VmidBits → ℕ
vs B8 = 0
vs B16 = 1

abbrev pub vmid_bits_named : ℕ → VmidBits
vmid_bits_named n = pick (eqb n 0) B8 B16

abbrev pub vmids : VmidBits → ℕ
vmids B8 = 2 ^ 8
vmids B16 = 2 ^ 16
