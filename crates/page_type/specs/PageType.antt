-- Frame kinds, by document 01 ("Edge and frame records").
use Rattle.std.specs.Prelude.{Option, Some, None}
use Rattle.std.specs.Prelude.{ℕ, [], ◌∷◌, ◌≡◌}
use Rattle.fields.specs.Named.{named}
use Rattle.page_type.specs.declared.PageType.{PageType}
use Rattle.page_type.specs.declared.PageType.TheVariants.{Writable, PageTable}
use Rattle.page_type.specs.declared.PtLevel.{PtLevel}
use Rattle.page_type.specs.declared.PtLevel.TheVariants.{L1, L2, L3, L4}

-- kinds 2 to 5 are page tables L1 to L4
abbrev pub kind_of : PtLevel → ℕ
kind_of L1 = 2
kind_of L2 = 3
kind_of L3 = 4
kind_of L4 = 5

-- all else none of these
abbrev pub level_of_kind : ℕ → Option PtLevel
level_of_kind = named kind_of (L1 ∷ L2 ∷ L3 ∷ L4 ∷ []) Some None

-- a writable frame's kind is none of these: 1
abbrev pub type_code : PageType → ℕ
type_code Writable = 1
type_code (PageTable l) = kind_of l

abbrev pub level_of_type : PageType → Option PtLevel
level_of_type Writable = None
level_of_type (PageTable l) = Some l

-- an interior entry references the table directly below; nothing is below L1
abbrev pub child_type : PtLevel → Option PageType
child_type L1 = None
child_type L2 = Some (PageTable L1)
child_type L3 = Some (PageTable L2)
child_type L4 = Some (PageTable L3)

-- a page table's kind names its level, and no other kind does
pub record KindsName : Type 0 where
  pub back : (l : PtLevel) → level_of_kind (kind_of l) ≡ Some l
  pub only : (k : ℕ) (l : PtLevel) → level_of_kind k ≡ Some l → k ≡ kind_of l
