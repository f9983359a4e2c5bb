-- Edges placed in order: one is placed before the others, and after a refusal nothing is.
use Prim.Native.Nat.{ℕ, ◌+◌, ◌≤◌, ◌<◌}
use mathlib.Core.List.{List, [], ◌∷◌}
use mathlib.Core.Path.{◌≡◌, refl, ap, ◌∙◌}
use native.Mathlib.Numerals.{add-one}
use lib.ListN.{length, get_or, drop, drop_of_length-le}
use lib.Seq.{drop-cons}
use Rattle.edge.specs.declared.Edge.{Edge}
use Rattle.refusal.specs.Table.{Row, accepted, refused}
use Rattle.filling.specs.Filling.{Filling, placed, placed_next, placed_all}
use Rattle.filling.proofs.Onward.{on, off}

module _ (frames : List (List ℕ)) (dom : ℕ) where
  pub place_none : (f : Filling) → placed_all frames dom [] f ≡ f
  unfolding placed_all
  place_none f = refl

  pub place_next :
      (e : Edge) (es : List Edge) (f : Filling) → f.outcome ≡ accepted →
      placed_all frames dom (e ∷ es) f ≡ placed_all frames dom es (placed frames dom f e)
  unfolding placed_all
  place_next e es f a = ap (placed_all frames dom es) (on (λ h. placed frames dom h e) f a)

  pub place_stop : (es : List Edge) (f : Filling) (r : Row) → f.outcome ≡ refused r → placed_all frames dom es f ≡ f
  unfolding placed_all
  place_stop [] f r e = refl
  place_stop (x ∷ es) f r e =
      ap (placed_all frames dom es) (off (λ h. placed frames dom h x) f r e) ∙ place_stop es f r e

  module _ (edges : List Edge) (i : ℕ) (f : Filling) where
    pub place_at :
        (d : Edge) → i < length edges →
        placed_all frames dom (drop i edges) f
        ≡ placed_all frames dom (drop (i + 1) edges) (placed_next frames dom f (get_or edges i d))
    unfolding placed_all
    place_at d inside = rw (add-one, drop-cons edges i d inside)

    pub place_end : length edges ≤ i → placed_all frames dom (drop i edges) f ≡ f
    unfolding placed_all
    place_end outside = rw (drop_of_length-le edges outside)
