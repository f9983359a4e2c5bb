-- The words of a refusal that holds a leaf, by the leaf's values.
use Rattle.std.specs.Prelude.{Some, None, Option}
use Rattle.decode.specs.declared.Decoded.{Decoded}
use Prim.Native.Nat.{ℕ}
use mathlib.Core.List.{[], ◌∷◌}
use mathlib.Core.Path.{◌≡◌, refl}
use lib.ListN.{get_or}
use Rattle.refusal.specs.Outcome.{leaf_values, wanted_values, row_of, row_words}
use Rattle.refusal.specs.declared.Refusal.TheVariants.{BadImageBlock, BadLeaf}

pub image_carried :
    (e : ℕ) (found : Option Decoded) →
    let f = leaf_values found in
    (19 ∷ get_or f 0 0 ∷ get_or f 1 0 ∷ get_or f 2 0 ∷ get_or f 3 0 ∷ e ∷ 0 ∷ 0 ∷ 0 ∷ []) ≡ row_words (row_of (BadImageBlock found e))
image_carried e (Some a) = refl
image_carried e None = refl

pub leaf_carried :
    (m : ℕ) (found want : Option Decoded) →
    let f = leaf_values found in
    let w = wanted_values want in
    (20 ∷ m ∷ get_or f 0 0 ∷ get_or f 1 0 ∷ get_or f 2 0 ∷ get_or f 3 0 ∷ get_or w 0 0 ∷ get_or w 1 0 ∷ get_or w 2 0 ∷ [])
    ≡ row_words (row_of (BadLeaf m found want))
leaf_carried m (Some a) (Some b) = refl
leaf_carried m (Some a) None = refl
leaf_carried m None (Some b) = refl
leaf_carried m None None = refl
