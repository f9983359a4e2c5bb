-- What a word means to the Rust's decoders, in the fields of DDI 0487.
use Rattle.std.specs.Prelude.{Some, None, Option}
use Rattle.perm.specs.declared.Perm.{Perm}
use Rattle.decode.specs.declared.DecodedDevice.{DecodedDevice}
use Rattle.decode.specs.declared.Decoded.{Decoded}
use Rattle.std.specs.Prelude.{ℕ, Bool, [], ◌∷◌, eqb}
use Rattle.desc.specs.Descriptor.{descriptor_type, block_type, table_type, page_type, mem_attr, s2ap, execute_never, page_address, block_address}
use Rattle.desc.specs.Words.{s2ap_of}
use Rattle.fields.specs.Named.{pick, named}
use Rattle.perm.specs.declared.Perm.TheVariants.{Ro, Rw}

-- 00 and 10 give nothing
abbrev pub access_named : ℕ → Option Perm
access_named = named s2ap_of (Rw ∷ Ro ∷ []) Some None

abbrev pub access_of : ℕ → Option Perm
access_of d = access_named (s2ap d)

-- a leaf of output address pa, where its access is one
abbrev pub leaf_of : ℕ → Bool → Option Perm → Option Decoded
leaf_of pa never (Some p) = Some (record { pa = pa; perm = p; xn = never })
leaf_of pa never None = None

abbrev pub leaf_at : ℕ → ℕ → Option Decoded
leaf_at pa d = leaf_of pa (execute_never d) (access_of d)

-- its output address, 0 where there is none
abbrev pub output_of : Option Decoded → ℕ
output_of (Some d) = d.pa
output_of None = 0

abbrev pub decoded_page : ℕ → Option Decoded
decoded_page d = pick (eqb (descriptor_type d) page_type) (leaf_at (page_address d) d) None

abbrev pub decoded_block : ℕ → Option Decoded
decoded_block d = pick (eqb (descriptor_type d) block_type) (leaf_at (block_address d) d) None

abbrev pub decoded_table : ℕ → Option ℕ
decoded_table d = pick (eqb (descriptor_type d) table_type) (Some (page_address d)) None

-- MemAttr 0000 is Device-nGnRnE
abbrev pub decoded_device : ℕ → Option DecodedDevice
decoded_device d =
    pick (eqb (descriptor_type d) block_type)
    (pick (eqb (mem_attr d) 0) (Some (record { pa = block_address d; xn = execute_never d })) None) None
