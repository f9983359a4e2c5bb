-- The widest entry of a frame: Rw of an own one, with one grant more the wider of two, and none by a grant of another frame.
use Rattle.std.specs.Prelude.{Option, Some, None}
use Prim.Native.Nat.{ℕ, ◌≤◌, ◌<◌, max}
use mathlib.Core.Bool.{Bool, true, false, ◌||◌}
use mathlib.Core.List.{List, [], ◌∷◌, ◌++◌}
use mathlib.Core.Logic.{◌≢◌}
use mathlib.Core.Path.{◌≡◌, refl, sym, ap, ◌∙◌}
use lib.Dec.{eqb}
use lib.ListN.{length, get_or, get_or-eq_default}
use borrow.Author.Tests.{ne_eqb}
use Rattle.authority.specs.Authority.{has_grant, reaches}
use Rattle.authority.specs.Widest.{widest, widest_at, own_by, covered, widest_by}
use Rattle.authority.proofs.Grants.{or_assoc, granted_more}
use Rattle.edge.specs.Edge.{owned_by}
use Rattle.fields.proofs.Default.{get_d_inside}
use Rattle.fields.specs.Named.{pick}
use Rattle.grant.specs.Grant.{covers}
use Rattle.grant.specs.declared.Grant.{Grant}
use Rattle.p2m.specs.Frame.{no_frame, owner_of}
use Rattle.perm.specs.Perm.{perm_code}
use Rattle.perm.specs.declared.Perm.TheVariants.{Rw}

-- what one of two allows is the wider of what each does
wider : (r x c d : Bool) → widest (r || c) (x || d) ≡ max (widest r x) (widest c d)
wider true true true true = refl
wider true true true false = refl
wider true true false true = refl
wider true true false false = refl
wider true false true true = refl
wider true false true false = refl
wider true false false true = refl
wider true false false false = refl
wider false true true true = refl
wider false true true false = refl
wider false true false true = refl
wider false true false false = refl
wider false false true true = refl
wider false false true false = refl
wider false false false true = refl
wider false false false false = refl

module _ (frames : List (List ℕ)) (dom m : ℕ) where
  own : widest_at frames [] dom m ≡ pick (owned_by dom (owner_of frames m)) (perm_code Rw) 0
  unfolding widest_at has_grant
  own = go (owner_of frames m)
    where
      by_test : (b : Bool) → widest (b || false) (b || false) ≡ pick b (perm_code Rw) 0
      by_test true = refl
      by_test false = refl

      go : (o : Option ℕ) → widest (reaches [] dom m false o) (reaches [] dom m true o) ≡ pick (owned_by dom o) (perm_code Rw) 0
      go (Some o) = by_test (eqb o dom)
      go None = refl

  pub own_inside : m < length frames → widest_at frames [] dom m ≡ own_by dom (get_or frames m [])
  own_inside inside = own ∙ ap (own_by dom) (sym (get_d_inside frames m [] no_frame inside))

  pub own_past : length frames ≤ m → widest_at frames [] dom m ≡ 0
  own_past past = own ∙ ap (own_by dom) (get_or-eq_default frames no_frame past)

  module _ (g : Grant) where
    pub more :
        (gs : List Grant) →
        widest_at frames (gs ++ g ∷ []) dom m ≡ max (widest_at frames gs dom m) (widest_by frames dom m g)
    unfolding widest_at widest_by
    more gs =
        let o = owner_of frames m in
        ap (λ r. widest r (reaches (gs ++ g ∷ []) dom m true o)) (reached_more false o)
        ∙ ap (λ x. widest (reaches gs dom m false o || covered g dom m false o) x) (reached_more true o)
        ∙ wider (reaches gs dom m false o) (reaches gs dom m true o) (covered g dom m false o) (covered g dom m true o)
      where
        reached_more :
            (w : Bool) (o : Option ℕ) →
            reaches (gs ++ g ∷ []) dom m w o ≡ (reaches gs dom m w o || covered g dom m w o)
        reached_more w (Some o) =
            ap (λ b. eqb o dom || b) (granted_more gs g o dom m w)
            ∙ or_assoc (eqb o dom) (has_grant gs o dom m w) (covers o dom m w g)
        reached_more w None = refl

    pub elsewhere : g.frame ≢ m → widest_by frames dom m g ≡ 0
    unfolding widest_by covers
    elsewhere other = go (owner_of frames m)
      where
        go : (o : Option ℕ) → widest (covered g dom m false o) (covered g dom m true o) ≡ 0
        go (Some o) = rw (ne_eqb g.frame m other)
        go None = refl
