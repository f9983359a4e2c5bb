-- A page table's kind names its level, and no other kind does.
use Rattle.std.specs.Prelude.{Some, None}
use Prim.Native.Nat.{ℕ}
use mathlib.Core.List.{[], ◌∷◌}
use mathlib.Core.Path.{◌≡◌, refl}
use Rattle.fields.proofs.Named.{has_code}
use Rattle.page_type.specs.PageType.{KindsName, kind_of, level_of_kind}
use Rattle.page_type.specs.declared.PtLevel.{PtLevel}
use Rattle.page_type.specs.declared.PtLevel.TheVariants.{L1, L2, L3, L4}

back : (l : PtLevel) → level_of_kind (kind_of l) ≡ Some l
back L1 = refl
back L2 = refl
back L3 = refl
back L4 = refl

one : (l m : PtLevel) → Some l ≡ Some m → l ≡ m
one l m e = cc

none : (l : PtLevel) → None ≡ Some l → ⊥
none l e = cc

only : (k : ℕ) (l : PtLevel) → level_of_kind k ≡ Some l → k ≡ kind_of l
only k l e = has_code kind_of (L1 ∷ L2 ∷ L3 ∷ L4 ∷ []) Some None k l one (none l) e

pub kinds_name : KindsName
kinds_name = record { back = back; only = only }
