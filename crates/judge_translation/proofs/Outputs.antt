-- The address field of a word, as the code takes it: of a table or page, of a block of 2 MiB, of a block of 1 GiB; the offset below it.
use Prim.Native.Nat.{ℕ, ◌+◌, ◌*◌, ◌/◌, ◌%◌, ◌^◌}
use mathlib.Core.Path.{◌≡◌}
use native.Mathlib.Omega.{arith}
use Rattle.desc.specs.Descriptor.{page_address, block_address}
use Rattle.fields.specs.Bits.{bits}
use Rattle.layout.specs.Size.{page, block, l1_span, output_limit}

pub table_named : (d : ℕ) → d % output_limit / page * page ≡ page_address d
table_named d = omega arith

pub page_output : (d x : ℕ) → d % output_limit / page * page + x % page ≡ page_address d + bits 11 0 x
page_output d x = omega arith

pub block_output : (d x : ℕ) → d % output_limit / block * block + x % block ≡ block_address d + bits 20 0 x
block_output d x = omega arith

pub large_output : (d x : ℕ) → d % output_limit / l1_span * l1_span + x % l1_span ≡ bits 47 30 d * 2 ^ 30 + bits 29 0 x
large_output d x = omega arith
