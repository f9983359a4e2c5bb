-- The functions 1 and 2: table levels and page types.
use Rattle.page_type.specs.declared.PageType.{PageType}
use Rattle.page_type.specs.declared.PtLevel.{PtLevel}
use Rattle.std.specs.Option.{option_map_or}
use Rattle.std.specs.Prelude.{Option, Some, None, ℕ, List, [], ◌∷◌}
use Rattle.fields.specs.Named.{named}
use Rattle.page_type.specs.PageType.{kind_of, type_code, level_of_type, child_type}
use Rattle.page_type.specs.declared.PageType.TheVariants.{Writable, PageTable}
use Rattle.page_type.specs.declared.PtLevel.TheVariants.{L1, L2, L3, L4}
use Rattle.probe_numbers.specs.Zeros.{or_zeros}

-- 1: a kind's level, and the type of what its interior entries reference
abbrev pub table_level_numbers : Option PtLevel → List ℕ
table_level_numbers = or_zeros (λ l. kind_of l ∷ option_map_or type_code (child_type l) 0 ∷ [])

-- 2: a page type's level
abbrev pub type_named : ℕ → Option PageType
type_named = named type_code (Writable ∷ PageTable L1 ∷ PageTable L2 ∷ PageTable L3 ∷ PageTable L4 ∷ []) Some None

abbrev pub type_numbers : Option PageType → List ℕ
type_numbers = or_zeros (λ t. option_map_or kind_of (level_of_type t) 0 ∷ [])
