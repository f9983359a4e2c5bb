-- What is found by its code has that code.
use Prim.Native.Nat.{ℕ}
use mathlib.Core.Bool.{Bool, true, false}
use mathlib.Core.List.{List, [], ◌∷◌}
use mathlib.Core.Path.{◌≡◌, refl, ◌∙◌, ap}
use lib.Dec.{eqb}
use borrow.Author.Tests.{eqb-true}
use Rattle.fields.specs.Named.{pick, named}

-- where the look-up gives `found y` and not `other`, y's code is the number
pub has_code :
    {A B : Type 0} (code : A → ℕ) (xs : List A) (found : A → B) (other : B) (n : ℕ) (y : A) →
    ((x z : A) → found x ≡ found z → x ≡ z) →
    (other ≡ found y → ⊥) → named code xs found other n ≡ found y → n ≡ code y
has_code code [] found other n y one none e = absurd (none e)
has_code {A} {B} code (x ∷ xs) found other n y one none e =
    go (eqb n (code x)) refl (has_code code xs found other n y one none) e
  where
    go :
        (b : Bool) →
        eqb n (code x) ≡ b →
        (named code xs found other n ≡ found y → n ≡ code y) →
        pick b (found x) (named code xs found other n) ≡ found y → n ≡ code y
    go true t rest f = eqb-true n (code x) t ∙ ap code (one x y f)
    go false t rest f = rest f
