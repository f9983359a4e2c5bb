-- The words of document 01's scene S, as they are printed: table, index, word.
use Rattle.std.specs.Prelude.{ℕ, ◌+◌, ◌-◌, ◌*◌, ◌≡◌}
use Rattle.arena.specs.Encoded.{target}
use Rattle.layout.specs.Layout.{layout_of}
use Rattle.layout.specs.Size.{entries}
use Rattle.rows.specs.Examples.{scene_s, base_s, sup_s}

-- what encoding into zeros leaves in a table, at an index
abbrev pub word_s : ℕ → ℕ → ℕ
word_s t j = target (layout_of scene_s) base_s sup_s ((t - 1) * entries + j)

pub record WordsS : Type 0 where
  pub device_table : word_s 1 0x000 ≡ 0x0000_0000_4000_5003
  pub data_table : word_s 1 0x002 ≡ 0x0000_0000_4000_2003
  pub super_table : word_s 1 0x003 ≡ 0x0000_0000_4000_4003
  pub page_table : word_s 3 0x000 ≡ 0x0000_0000_4000_3003
  pub page : word_s 4 0x001 ≡ 0x0040_0000_5000_17FF
  pub super : word_s 5 0x002 ≡ 0x0000_0000_6040_077D
  pub device : word_s 6 0x048 ≡ 0x0040_0000_0900_04C1
  -- there is no image, page 0 and super 0 are unmapped, super 4 is none, and the device has one block
  pub no_image : word_s 2 0x000 ≡ 0
  pub no_page : word_s 4 0x000 ≡ 0
  pub no_super : word_s 5 0x000 ≡ 0
  pub no_such_super : word_s 5 0x004 ≡ 0
  pub device_absent : word_s 6 0x049 ≡ 0
