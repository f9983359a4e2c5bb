-- Memory types in the encodings of both stages, by DDI 0487.
use Rattle.std.specs.Prelude.{ℕ, ◌+◌, ◌*◌, ◌^◌}
use Rattle.memtype.specs.declared.MemoryType.TheVariants.{NormalWbIsh, NormalNonCacheable, DeviceNGnRnE}
use Rattle.memtype.specs.declared.MemoryType.{MemoryType}

-- stage 1, MAIR_ELx: a nibble for outer and the same for inner; 1111 write-back, 0100 non-cacheable, 0000 Device-nGnRnE
abbrev pub mair_nibble : MemoryType → ℕ
mair_nibble NormalWbIsh = 0b1111
mair_nibble NormalNonCacheable = 0b0100
mair_nibble DeviceNGnRnE = 0b0000

abbrev pub mair_byte : MemoryType → ℕ
mair_byte t = mair_nibble t * 2 ^ 4 + mair_nibble t

-- stage 2, MemAttr[3:0]: outer 3:2 and inner 1:0; 11 write-back, 01 non-cacheable; 0000 Device-nGnRnE
abbrev pub mem_attr_of : MemoryType → ℕ
mem_attr_of NormalWbIsh = 0b1111
mem_attr_of NormalNonCacheable = 0b0101
mem_attr_of DeviceNGnRnE = 0b0000

-- SH[1:0]: 11 inner shareable, 00 non-shareable
abbrev pub sh_of : MemoryType → ℕ
sh_of NormalWbIsh = 0b11
sh_of NormalNonCacheable = 0b00
sh_of DeviceNGnRnE = 0b00

-- SH stands at bits 9:8 in both stages
abbrev pub shareability_bits : MemoryType → ℕ
shareability_bits t = sh_of t * 2 ^ 8

-- MemAttr at bits 5:2 and SH
abbrev pub leaf_bits : MemoryType → ℕ
leaf_bits t = mem_attr_of t * 2 ^ 2 + shareability_bits t
