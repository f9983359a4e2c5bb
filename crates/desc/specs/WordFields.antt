-- What is proved of document 01's words: each has exactly the fields that its name says.
use Rattle.std.specs.Prelude.{ℕ, Bool, true, false, ◌≡◌}
use Rattle.fields.specs.Numbers.{bit}
use Rattle.memtype.specs.Memory.{mem_attr_of, sh_of}
use Rattle.memtype.specs.declared.MemoryType.TheVariants.{NormalWbIsh, DeviceNGnRnE}
use Rattle.memtype.specs.declared.MemoryType.{MemoryType}
use Rattle.perm.specs.declared.Perm.TheVariants.{Ro, Rw}
use Rattle.perm.specs.declared.Perm.{Perm}
use Rattle.desc.specs.Descriptor.{Fields, fields_of, joined, block_type, table_type, page_type}
use Rattle.desc.specs.Words.{s2ap_of}
use Rattle.desc.specs.Words.{table_word, page_word, block_word, image_word, device_word, leaf_access_xn}
use Rattle.desc.specs.declared.AccessXn.{AccessXn}

-- read-only and executable, as the image is
abbrev pub read_execute : AccessXn
read_execute = record { access = Ro; xn = false }

-- read, write and execute never, as a device is
abbrev pub read_write : AccessXn
read_write = record { access = Rw; xn = true }

abbrev pub table_fields : Fields
table_fields = record { kind = table_type; mem = 0; access = 0; share = 0; flag = 0; never = 0 }

-- a leaf has its access flag set
abbrev pub leaf_fields : ℕ → MemoryType → AccessXn → Fields
leaf_fields k t a =
    record { kind = k; mem = mem_attr_of t; access = s2ap_of a.access; share = sh_of t; flag = 1; never = bit a.xn }

-- the word has these fields, and no other bit
abbrev pub Exactly : ℕ → Fields → Type 0
Exactly w f = (fields_of w ≡ f) × (joined f ≡ w)

-- each word of the list has exactly the fields that its name says
pub record WordFields : Type 0 where
  pub table : Exactly table_word table_fields
  pub page : (p : Perm) → Exactly (page_word p) (leaf_fields page_type NormalWbIsh (leaf_access_xn p false))
  pub block : (p : Perm) (exempt : Bool) → Exactly (block_word p exempt) (leaf_fields block_type NormalWbIsh (leaf_access_xn p exempt))
  pub image : Exactly image_word (leaf_fields block_type NormalWbIsh read_execute)
  pub device : Exactly device_word (leaf_fields block_type DeviceNGnRnE read_write)
