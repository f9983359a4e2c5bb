-- The functions 3 to 10: those of perm, memtype, desc and decode.
use Rattle.decode.specs.declared.DecodedDevice.{DecodedDevice}
use Rattle.decode.specs.declared.Decoded.{Decoded}
use Rattle.std.specs.Prelude.{Option, Some, None, ℕ, ◌+◌, ◌*◌, ◌^◌, Bool, true, false, List, [], ◌∷◌}
use Rattle.desc.specs.Descriptor.{block_type, table_type, page_type}
use Rattle.desc.specs.Words.{page_word, block_word, image_word, device_word, leaf_access_xn, s2ap_of}
use Rattle.fields.specs.Named.{named}
use Rattle.fields.specs.Numbers.{bit}
use Rattle.memtype.specs.Memory.{mair_byte, leaf_bits, shareability_bits}
use Rattle.memtype.specs.declared.MemoryType.TheVariants.{NormalWbIsh, NormalNonCacheable, DeviceNGnRnE}
use Rattle.memtype.specs.declared.MemoryType.{MemoryType}
use Rattle.perm.specs.Perm.{entry_named, perm_code, perm_writes, perm_executes}
use Rattle.perm.specs.declared.Perm.TheVariants.{Ro, Rw, Rx}
use Rattle.perm.specs.declared.Perm.{Perm}
use Rattle.probe_numbers.specs.Zeros.{or_zeros}

-- 3: a permission by its code, and the exemption
abbrev pub perm_named : ℕ → Option Perm
perm_named = entry_named

abbrev pub perm_numbers : Option Perm → Bool → List ℕ
perm_numbers o exempt =
    or_zeros
    (λ p. bit (perm_writes p)
    ∷ bit (perm_executes p)
    ∷ page_word p
    ∷ block_word p exempt
    ∷ perm_code (leaf_access_xn p exempt).access
    ∷ bit (leaf_access_xn p exempt).xn
    ∷ [])
    o

-- 4: a memory type, numbered in the Rust's order
abbrev pub type_number : MemoryType → ℕ
type_number NormalWbIsh = 0
type_number NormalNonCacheable = 1
type_number DeviceNGnRnE = 2

abbrev pub memory_named : ℕ → Option MemoryType
memory_named = named type_number (NormalWbIsh ∷ NormalNonCacheable ∷ DeviceNGnRnE ∷ []) Some None

abbrev pub memory_numbers : ℕ → List ℕ
memory_numbers n = or_zeros (λ t. 1 ∷ mair_byte t ∷ leaf_bits t ∷ shareability_bits t ∷ []) (memory_named n)

-- 5: table, page, block, access flag, S2AP of read and write and of read, execute never, the common attributes of a leaf
abbrev pub constant_numbers : List ℕ
constant_numbers =
    table_type
    ∷ page_type
    ∷ block_type
    ∷ (2 ^ 10)
    ∷ (s2ap_of Rw * 2 ^ 6)
    ∷ (s2ap_of Ro * 2 ^ 6)
    ∷ (2 ^ 54)
    ∷ (leaf_bits NormalWbIsh + 2 ^ 10)
    ∷ []

-- 6: the words of leaves
abbrev pub word_numbers : List ℕ
word_numbers =
    image_word
    ∷ page_word Rw
    ∷ page_word Ro
    ∷ page_word Rx
    ∷ block_word Rw false
    ∷ block_word Ro false
    ∷ block_word Rw true
    ∷ device_word
    ∷ []

-- 7 to 10: what a word decodes to
abbrev pub leaf_numbers : Option Decoded → List ℕ
leaf_numbers = or_zeros (λ (d : Decoded). 1 ∷ d.pa ∷ perm_code d.perm ∷ bit d.xn ∷ [])

abbrev pub table_numbers : Option ℕ → List ℕ
table_numbers = or_zeros (λ pa. 1 ∷ pa ∷ [])

abbrev pub device_numbers : Option DecodedDevice → List ℕ
device_numbers = or_zeros (λ (d : DecodedDevice). 1 ∷ d.pa ∷ bit d.xn ∷ [])
