-- A stop comes back from its number.
use Rattle.std.specs.Prelude.{Option, Some, None}
use Prim.Native.Nat.{ℕ, zero, suc}
use mathlib.Core.Bool.{Bool, true, false}
use mathlib.Core.List.{List}
use mathlib.Core.Path.{◌≡◌, refl}
use lib.Dec.{eqb}
use borrow.Author.Tests.{eqb-true}
use Rattle.desc.specs.Descriptor.{descriptor_type, block_type, page_type}
use Rattle.descent.specs.Descent.{Words, index, fetch, ends_at, next_table, leads, through}
use Rattle.descent.specs.Packed.{packed, unpacked}
use Rattle.descent.specs.declared.Stop.{Stop}
use Rattle.descent.specs.declared.Stop.TheVariants.{Leaf, Stopped}
use Rattle.fields.specs.Named.{pick}

abbrev Back : Stop → Type 0
Back s = unpacked (packed s) ≡ s

end_back : (left d : ℕ) → Back (ends_at left d)
end_back zero d = go (eqb (descriptor_type d) page_type) refl
  where
    go : (b : Bool) → eqb (descriptor_type d) page_type ≡ b → Back (pick b (Leaf 3 d) (Stopped 3))
    go true e = rw e
    go false e = refl
end_back (suc zero) d = go (eqb (descriptor_type d) block_type) refl
  where
    go : (b : Bool) → eqb (descriptor_type d) block_type ≡ b → Back (pick b (Leaf 2 d) (Stopped 2))
    go true e = let t : descriptor_type d ≡ block_type = eqb-true _ _ e in rw t
    go false e = refl
end_back (suc (suc left)) d = refl

by_table :
    (left d : ℕ) (down : ℕ → Stop) → ((next : ℕ) → Back (down next)) →
    (t : Option ℕ) → Back (leads t down (ends_at (suc left) d))
by_table left d down below (Some next) = below next
by_table left d down below None = end_back (suc left) d

pub back : (tables : List ℕ) (ws : ℕ → Words) (left d x : ℕ) → Back (through tables ws left d x)
back tables ws zero d x = end_back 0 d
back tables ws (suc left) d x =
    by_table left d _ (λ next. back tables ws left (fetch 0 tables (ws left) next (index left x)) x) (next_table d)
