-- What is proved of emitted words: decoding gives back what was joined.
use Rattle.std.specs.Prelude.{Some, Option}
use Rattle.decode.specs.declared.Decoded.{Decoded}
use Rattle.std.specs.Prelude.{ℕ, ◌+◌, ◌%◌, ◌^◌, ◌<◌, Bool, true, false, ◌≡◌}
use Rattle.desc.specs.WordFields.{read_execute, read_write}
use Rattle.desc.specs.Words.{table_word, page_word, block_word, image_word, device_word, leaf_access_xn}
use Rattle.desc.specs.declared.AccessXn.{AccessXn}
use Rattle.perm.specs.declared.Perm.{Perm}
use Rattle.decode.specs.Decoded.{decoded_page, decoded_block, decoded_table, decoded_device}

-- an output address that a descriptor can hold, aligned to 2 ^ k
pub record Output (k pa : ℕ) : Type 0 where
  pub below : pa < 2 ^ 48
  pub aligned : pa % 2 ^ k ≡ 0

abbrev pub leaf_with : ℕ → AccessXn → Option Decoded
leaf_with pa a = Some (record { pa = pa; perm = a.access; xn = a.xn })

-- decoding an emitted word gives back its address, access and execute bit
pub record EmittedDecodes : Type 0 where
  pub table : (pa : ℕ) → Output 12 pa → decoded_table (pa + table_word) ≡ Some pa
  pub page : (pa : ℕ) (p : Perm) → Output 12 pa → decoded_page (pa + page_word p) ≡ leaf_with pa (leaf_access_xn p false)
  pub block :
      (pa : ℕ) (p : Perm) (exempt : Bool) →
      Output 21 pa → decoded_block (pa + block_word p exempt) ≡ leaf_with pa (leaf_access_xn p exempt)
  pub image : (pa : ℕ) → Output 21 pa → decoded_block (pa + image_word) ≡ leaf_with pa read_execute
  pub device : (pa : ℕ) → Output 21 pa → decoded_device (pa + device_word) ≡ Some (record { pa = pa; xn = true })
  pub device_leaf : (pa : ℕ) → Output 21 pa → decoded_block (pa + device_word) ≡ leaf_with pa read_write
