-- How the code carries a stop: as one number.
use Rattle.std.specs.Prelude.{ℕ, ◌*◌, ◌/◌, ◌%◌, eqb}
use Rattle.desc.specs.Descriptor.{descriptor_type, block_type, page_type}
use Rattle.descent.specs.declared.Stop.{Stop}
use Rattle.descent.specs.declared.Stop.TheVariants.{Leaf, Stopped}
use Rattle.fields.specs.Named.{pick}

-- a leaf is its word, of type 11 at level 3 and 01 at level 2; else four times the level, of type 00
abbrev pub packed : Stop → ℕ
packed (Leaf level d) = d
packed (Stopped level) = 4 * level

abbrev pub unpacked : ℕ → Stop
unpacked n =
    pick (eqb (descriptor_type n) page_type) (Leaf 3 n) (pick (eqb (descriptor_type n) block_type) (Leaf 2 n) (Stopped (n / 4 % 4)))
