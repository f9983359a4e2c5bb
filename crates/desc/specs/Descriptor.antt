-- The fields of a stage-2 descriptor, by DDI 0487 (VMSAv8-64, stage 2, 4 KB granule).
use Rattle.std.specs.Prelude.{ℕ, ◌+◌, ◌*◌, ◌^◌, Bool, eqb}
use Rattle.fields.specs.Bits.{bits}

-- bits 1:0, valid and type: 01 a block; 11 a table at levels 1 and 2, a page at level 3; else invalid
abbrev pub descriptor_type : ℕ → ℕ
descriptor_type = bits 1 0

abbrev pub block_type : ℕ
block_type = 1

abbrev pub table_type : ℕ
table_type = 3

abbrev pub page_type : ℕ
page_type = 3

-- bits 5:2, the memory attributes
abbrev pub mem_attr : ℕ → ℕ
mem_attr = bits 5 2

-- bits 7:6, the access permissions: bit 6 reads, bit 7 writes
abbrev pub s2ap : ℕ → ℕ
s2ap = bits 7 6

-- bits 9:8, the shareability
abbrev pub sh : ℕ → ℕ
sh = bits 9 8

-- bit 10, the access flag: clear faults
abbrev pub af : ℕ → ℕ
af = bits 10 10

-- bit 54, execute never
abbrev pub xn : ℕ → ℕ
xn = bits 54 54

abbrev pub execute_never : ℕ → Bool
execute_never d = eqb (xn d) 1

-- bits 47:12 are the address of a page or a table
abbrev pub page_address : ℕ → ℕ
page_address d = bits 47 12 d * 2 ^ 12

-- bits 47:21 are the address of a level 2 block
abbrev pub block_address : ℕ → ℕ
block_address d = bits 47 21 d * 2 ^ 21

-- the fields below the address, and execute never
pub record Fields : Type 0 where
  pub kind : ℕ
  pub mem : ℕ
  pub access : ℕ
  pub share : ℕ
  pub flag : ℕ
  pub never : ℕ

abbrev pub fields_of : ℕ → Fields
fields_of d = record { kind = descriptor_type d; mem = mem_attr d; access = s2ap d; share = sh d; flag = af d; never = xn d }

-- the word that has these fields and no other bit
abbrev pub joined : Fields → ℕ
joined f = f.kind + f.mem * 2 ^ 2 + f.access * 2 ^ 6 + f.share * 2 ^ 8 + f.flag * 2 ^ 10 + f.never * 2 ^ 54
