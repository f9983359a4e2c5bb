-- A decoded leaf's output address lies below 2^48: a descriptor holds no other.
use Rattle.std.specs.Prelude.{Option, Some, None}
use Rattle.perm.specs.declared.Perm.{Perm}
use Prim.Native.Nat.{ℕ, ◌^◌, ◌<◌}
use mathlib.Core.Bool.{Bool, true, false}
use native.Mathlib.Omega.{arith}
use lib.Dec.{eqb}
use Rattle.decode.specs.Decoded.{access_of, leaf_of, output_of, decoded_page, decoded_block}
use Rattle.desc.specs.Descriptor.{descriptor_type, block_type, page_type, execute_never, page_address, block_address}
use Rattle.fields.specs.Named.{pick}

below : (b : Bool) (pa : ℕ) (never : Bool) (a : Option Perm) → pa < 2 ^ 48 → output_of (pick b (leaf_of pa never a) None) < 2 ^ 48
below true pa never (Some p) h = h
below true pa never None h = omega arith
below false pa never a h = omega arith

pub page_below : (d : ℕ) → output_of (decoded_page d) < 2 ^ 48
page_below d = below (eqb (descriptor_type d) page_type) (page_address d) (execute_never d) (access_of d) (omega arith)

pub block_below : (d : ℕ) → output_of (decoded_block d) < 2 ^ 48
block_below d = below (eqb (descriptor_type d) block_type) (block_address d) (execute_never d) (access_of d) (omega arith)
