-- What a refused filling holds: 15 and 16 stop it at the first edge whose step is refused, 17 comes after all edges.
use Rattle.std.specs.Prelude.{Option, Some, None}
use Prim.Native.Nat.{ℕ}
use mathlib.Core.Bool.{Bool, true, false}
use mathlib.Core.List.{List, [], ◌∷◌, ◌++◌}
use mathlib.Core.Logic.{◌⊎◌, inl, inr}
use mathlib.Core.Path.{◌≡◌, refl, sym, ap, ◌∙◌}
use lib.Dec.{ltb}
use lib.ListN.{length}
use Rattle.edge.specs.Edge.{counts}
use Rattle.edge.specs.declared.Edge.{Edge}
use Rattle.fields.specs.Named.{pick}
use Rattle.filling.proofs.Onward.{on, off}
use Rattle.filling.proofs.Placed.{place_none, place_next, place_stop}
use Rattle.filling.specs.Filling.{Filling, map_of, put_in, in_map, put_under, placed, placed_all, conflicts, cleared_maps, filled_into}
use Rattle.p2m.specs.Frame.{kind_at, span_of_kind}
use Rattle.p2m.specs.declared.Span.{Span}
use Rattle.p2m.specs.declared.Span.TheVariants.{Base, Super}
use Rattle.refusal.proofs.None.{refused≢accepted}
use Rattle.refusal.specs.Table.{Row, Outcome, accepted, refused}
use Rattle.leafmap_theorems.specs.Entries.{Stopped, Conflicting, RefusedHolds}
use Rattle.leafmap_theorems.proofs.Entries.{put_by, held as conflicts-held}

-- the same of edges that are placed into any two maps
record StoppedFrom (frames : List (List ℕ)) (dom : ℕ) (edges : List Edge) (f : Filling) (r : Row) : Type 0 where
  before : List Edge
  failing : Edge
  rest : List Edge
  split : edges ≡ before ++ failing ∷ rest
  placed_before : (placed_all frames dom before f).outcome ≡ accepted
  fails : (placed frames dom (placed_all frames dom before f) failing).outcome ≡ refused r
  held : (s : Span) → map_of s (placed_all frames dom edges f) ≡ map_of s (placed_all frames dom before f)

-- the edge that is refused leaves both maps as they were

held_by :
    (s u : Span) (f : Filling) (e : Edge) (r : Row) (b : Bool) →
    (in_map u (put_by b (map_of u f) e) f).outcome ≡ refused r →
    map_of s (in_map u (put_by b (map_of u f) e) f) ≡ map_of s f
held_by Base Base f e r false h = refl
held_by Base Super f e r b h = refl
held_by Super Base f e r b h = refl
held_by Super Super f e r false h = refl
held_by Base Base f e r true h = absurd (refused≢accepted r (sym h))
held_by Super Super f e r true h = absurd (refused≢accepted r (sym h))

held_under :
    (s : Span) (t : Option Span) (f : Filling) (e : Edge) (r : Row) →
    (put_under t f e).outcome ≡ refused r → map_of s (put_under t f e) ≡ map_of s f
unfolding put_in
held_under s (Some u) f e r h = held_by s u f e r (ltb e.child (length (map_of u f))) h
held_under Base None f e r h = refl
held_under Super None f e r h = refl

module _ (frames : List (List ℕ)) (dom : ℕ) where
  unchanged :
      (s : Span) (f : Filling) (e : Edge) (r : Row) →
      (placed frames dom f e).outcome ≡ refused r → map_of s (placed frames dom f e) ≡ map_of s f
  unfolding placed
  unchanged s f e r h = go (counts frames dom e) h
    where
      found : Option Span
      found = span_of_kind (kind_at frames e.parent)

      go :
          (b : Bool) → (pick b (put_under found f e) f).outcome ≡ refused r →
          map_of s (pick b (put_under found f e) f) ≡ map_of s f
      go true h = held_under s found f e r h
      go false h = refl

  -- the first edge is refused
  at_once :
      (e : Edge) (es : List Edge) (f : Filling) (q r : Row) →
      f.outcome ≡ accepted →
      (placed frames dom f e).outcome ≡ refused q →
      (placed_all frames dom (e ∷ es) f).outcome ≡ refused r →
      StoppedFrom frames dom (e ∷ es) f r
  at_once e es f q r a t h =
      let none = place_none frames dom f in
      let all = place_next frames dom e es f a ∙ place_stop frames dom es (placed frames dom f e) q t in
      record {
        before = [];
        failing = e;
        rest = es;
        split = refl;
        placed_before = ap (λ (g : Filling). g.outcome) none ∙ a;
        fails =
            ap (λ g. (placed frames dom g e).outcome) none ∙ sym (ap (λ (g : Filling). g.outcome) all) ∙ h;
        held = λ s. ap (map_of s) all ∙ unchanged s f e q t ∙ sym (ap (map_of s) none);
      }

  -- the first edge is placed
  later :
      (e : Edge) (es : List Edge) (f : Filling) (r : Row) →
      f.outcome ≡ accepted → StoppedFrom frames dom es (placed frames dom f e) r → StoppedFrom frames dom (e ∷ es) f r
  later e es f r a s =
      let next = place_next frames dom e es f a in
      let first = place_next frames dom e s.before f a in
      record {
        before = e ∷ s.before;
        failing = s.failing;
        rest = s.rest;
        split = ap (λ xs. e ∷ xs) s.split;
        placed_before = ap (λ (g : Filling). g.outcome) first ∙ s.placed_before;
        fails = ap (λ g. (placed frames dom g s.failing).outcome) first ∙ s.fails;
        held = λ u. ap (map_of u) next ∙ s.held u ∙ sym (ap (map_of u) first);
      }

  stops :
      (es : List Edge) (f : Filling) (r : Row) →
      f.outcome ≡ accepted → (placed_all frames dom es f).outcome ≡ refused r → StoppedFrom frames dom es f r
  stops [] f r a h =
      absurd (refused≢accepted r (sym h ∙ ap (λ (g : Filling). g.outcome) (place_none frames dom f) ∙ a))
  stops (e ∷ es) f r a h = go (placed frames dom f e).outcome refl (stops es (placed frames dom f e) r)
    where
      go :
          (o : Outcome) →
          (placed frames dom f e).outcome ≡ o →
          ((placed frames dom f e).outcome ≡ accepted →
          (placed_all frames dom es (placed frames dom f e)).outcome ≡ refused r →
          StoppedFrom frames dom es (placed frames dom f e) r) →
          StoppedFrom frames dom (e ∷ es) f r
      go accepted t rest =
          later e es f r a (rest t (sym (ap (λ (g : Filling). g.outcome) (place_next frames dom e es f a)) ∙ h))
      go (refused q) t rest = at_once e es f q r a t h

pub refused_holds : RefusedHolds
unfolding filled_into
refused_holds frames dom edges n m r h = go f.outcome refl
  where
    f : Filling
    f = placed_all frames dom edges (cleared_maps n m)

    go : (o : Outcome) → f.outcome ≡ o → Stopped frames dom edges n m r ⊎ Conflicting frames dom edges n m r
    go accepted a =
        let same = on conflicts f a in
        inr
        (record {
          placed_whole = a;
          conflict = sym (ap (λ (g : Filling). g.outcome) same) ∙ h;
          held = λ s. ap (map_of s) same ∙ conflicts-held s f;
        })
    go (refused q) e =
        let same = off conflicts f q e in
        let s = stops frames dom edges (cleared_maps n m) r refl (sym (ap (λ (g : Filling). g.outcome) same) ∙ h) in
        inl
        (record {
          before = s.before;
          failing = s.failing;
          rest = s.rest;
          split = s.split;
          placed_before = s.placed_before;
          fails = s.fails;
          held = λ u. ap (map_of u) same ∙ s.held u;
        })
