-- Document 01's words have their fields: each is computed.
use mathlib.Core.Bool.{Bool, true, false}
use mathlib.Core.Path.{refl}
use Rattle.memtype.specs.declared.MemoryType.TheVariants.{NormalWbIsh}
use Rattle.perm.specs.declared.Perm.TheVariants.{Ro, Rw, Rx}
use Rattle.perm.specs.declared.Perm.{Perm}
use Rattle.desc.specs.Descriptor.{block_type, page_type}
use Rattle.desc.specs.WordFields.{Exactly, leaf_fields, WordFields}
use Rattle.desc.specs.Words.{page_word, block_word, leaf_access_xn}

page_fields : (p : Perm) → Exactly (page_word p) (leaf_fields page_type NormalWbIsh (leaf_access_xn p false))
page_fields Ro = (refl, refl)
page_fields Rw = (refl, refl)
page_fields Rx = (refl, refl)

block_fields : (p : Perm) (e : Bool) → Exactly (block_word p e) (leaf_fields block_type NormalWbIsh (leaf_access_xn p e))
block_fields Ro e = (refl, refl)
block_fields Rw true = (refl, refl)
block_fields Rw false = (refl, refl)
block_fields Rx e = (refl, refl)

pub word_fields : WordFields
word_fields = record { table = (refl, refl); page = page_fields; block = block_fields; image = (refl, refl); device = (refl, refl) }
