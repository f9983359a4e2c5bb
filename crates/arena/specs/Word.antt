-- Document 01's words with their address joined: an address is held in bits 47:12 of a table or page word, 47:21 of a block word.
use Rattle.std.specs.Prelude.{ℕ, ◌+◌, Bool, [], ◌∷◌}
use Rattle.desc.specs.Descriptor.{page_address, block_address}
use Rattle.desc.specs.Words.{table_word, page_word, block_word, image_word, device_word}
use Rattle.fields.specs.Named.{named}
use Rattle.perm.specs.Perm.{perm_code}
use Rattle.perm.specs.declared.Perm.TheVariants.{Ro, Rw, Rx}
use Rattle.perm.specs.declared.Perm.{Perm}

abbrev pub table_to : ℕ → ℕ
table_to pa = page_address pa + table_word

abbrev pub page_to : ℕ → Perm → ℕ
page_to pa p = page_address pa + page_word p

abbrev pub block_to : ℕ → Bool → Perm → ℕ
block_to pa exempt p = block_address pa + block_word p exempt

abbrev pub image_to : ℕ → ℕ
image_to pa = block_address pa + image_word

abbrev pub device_to : ℕ → ℕ
device_to pa = block_address pa + device_word

-- the word of an entry of a map: 0, no word, where it is unmapped
abbrev pub leaf_for : ℕ → (Perm → ℕ) → ℕ
leaf_for entry word = named perm_code (Ro ∷ Rw ∷ Rx ∷ []) word 0 entry
