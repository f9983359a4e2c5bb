-- That no code outgrows its field.
use Prim.Native.Nat.{◌≤◌, ◌<◌}
use native.Mathlib.Omega.{arith}
use Rattle.sizes.specs.Codes.{ps, vs, vmids}
use Rattle.sizes.specs.declared.PaSize.TheVariants.{B32, B36, B40, B42, B44, B48, B52}
use Rattle.sizes.specs.declared.PaSize.{PaSize}
use Rattle.sizes.specs.declared.VmidBits.TheVariants.{B8, B16}
use Rattle.sizes.specs.declared.VmidBits.{VmidBits}

pub ps_range : (s : PaSize) → ps s < 8
ps_range B32 = omega arith
ps_range B36 = omega arith
ps_range B40 = omega arith
ps_range B42 = omega arith
ps_range B44 = omega arith
ps_range B48 = omega arith
ps_range B52 = omega arith

pub vs_range : (b : VmidBits) → vs b < 2
vs_range B8 = omega arith
vs_range B16 = omega arith

pub vmids_range : (b : VmidBits) → (1 ≤ vmids b) × (vmids b ≤ 65536)
vmids_range B8 = omega arith
vmids_range B16 = omega arith
