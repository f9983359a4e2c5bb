-- Document 01's words before the address is joined.
use Rattle.std.specs.Prelude.{ℕ, Bool, true, false, not}
use Rattle.perm.specs.declared.Perm.TheVariants.{Ro, Rw, Rx}
use Rattle.perm.specs.declared.Perm.{Perm}
use Rattle.desc.specs.declared.AccessXn.{AccessXn}

abbrev pub table_word : ℕ
table_word = 3

abbrev pub page_word : Perm → ℕ
page_word Rw = 0x0040_0000_0000_07FF
page_word Ro = 0x0040_0000_0000_077F
page_word Rx = 0x77F

-- the exemption alters only Rw supers
abbrev pub block_word : Perm → Bool → ℕ
block_word Rw false = 0x0040_0000_0000_07FD
block_word Rw true = 0x7FD
block_word Ro exempt = 0x0040_0000_0000_077D
block_word Rx exempt = 0x77D

abbrev pub image_word : ℕ
image_word = 0x77D

abbrev pub device_word : ℕ
device_word = 0x0040_0000_0000_04C1

-- the access, Ro or Rw, and execute never, that a leaf of this permission stands for
abbrev pub leaf_access_xn : Perm → Bool → AccessXn
leaf_access_xn Ro exempt = record { access = Ro; xn = true }
leaf_access_xn Rw exempt = record { access = Rw; xn = not exempt }
leaf_access_xn Rx exempt = record { access = Ro; xn = false }

-- S2AP of an access: 11 reads and writes, 01 reads
abbrev pub s2ap_of : Perm → ℕ
s2ap_of Ro = 0b01
s2ap_of Rw = 0b11
s2ap_of Rx = 0b01
