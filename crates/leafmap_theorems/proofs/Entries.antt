-- The entries of an accepted filling: an edge that is placed changes an entry as `check_exact` expects, and edges in order do.
use Rattle.std.specs.Prelude.{Option, Some, None}
use Prim.Native.Nat.{ℕ, zero, suc}
use mathlib.Core.Bool.{Bool, true, false}
use mathlib.Core.List.{List, [], ◌∷◌}
use mathlib.Core.Path.{◌≡◌, refl, sym, ap, ◌∙◌}
use lib.Dec.{ltb}
use lib.ListN.{length, get_or, set, replicate}
use borrow.Author.Tests.{ltb-true}
use Rattle.edge.specs.Edge.{entry_of, counts}
use Rattle.edge.specs.declared.Edge.{Edge}
use Rattle.expected.proofs.After.{stored, stays}
use Rattle.expected.specs.Expected.{is_span, lands, after_edge, after_edges, expected}
use Rattle.fields.specs.Named.{pick}
use Rattle.filling.proofs.Onward.{on, off}
use Rattle.filling.proofs.Placed.{place_none, place_next, place_stop}
use Rattle.filling.specs.Filling.{Filling, Put, put, map_of, put_in, in_map, put_under, placed, placed_all, conflicts, cleared_maps, filled_into}
use Rattle.leafmap_theorems.specs.Entries.{Entries, SameEntries}
use Rattle.p2m.specs.Frame.{kind_at, span_of_kind}
use Rattle.p2m.specs.declared.Span.{Span}
use Rattle.p2m.specs.declared.Span.TheVariants.{Base, Super}
use Rattle.refusal.proofs.None.{refused≢accepted}
use Rattle.refusal.specs.Table.{row, Outcome, accepted, refused}

-- what an edge leaves in a map, inside it and past it
abbrev pub put_by : Bool → List ℕ → Edge → Put
put_by b xs e =
    pick b (put (set xs e.child (entry_of e)) accepted) (put xs (refused (row 16 (e.child ∷ length xs ∷ []))))

module _ (frames : List (List ℕ)) (dom p : ℕ) where
  in_map_lem :
      (s u : Span) (f : Filling) (e : Edge) (b : Bool) →
      lands frames dom s e ≡ is_span s (Some u) →
      ltb e.child (length (map_of u f)) ≡ b →
      (in_map u (put_by b (map_of u f) e) f).outcome ≡ accepted →
      get_or (map_of s (in_map u (put_by b (map_of u f) e) f)) p 0 ≡ after_edge frames dom s p (get_or (map_of s f) p 0) e
  in_map_lem Base Base f e true l t a = stored frames dom Base p e f.base l (λ here. rw here at (ltb-true _ _ t))
  in_map_lem Base Super f e true l t a = stays frames dom Base p e (get_or f.base p 0) l
  in_map_lem Super Base f e true l t a = stays frames dom Super p e (get_or f.sup p 0) l
  in_map_lem Super Super f e true l t a = stored frames dom Super p e f.sup l (λ here. rw here at (ltb-true _ _ t))
  in_map_lem s Base f e false l t a = absurd (refused≢accepted _ a)
  in_map_lem s Super f e false l t a = absurd (refused≢accepted _ a)

  module _ (s : Span) where
    under :
        (f : Filling) (e : Edge) (t : Option Span) →
        lands frames dom s e ≡ is_span s t →
        (put_under t f e).outcome ≡ accepted →
        get_or (map_of s (put_under t f e)) p 0 ≡ after_edge frames dom s p (get_or (map_of s f) p 0) e
    unfolding put_in
    under f e (Some u) l a = in_map_lem s u f e (ltb e.child (length (map_of u f))) l refl a
    under f e None l a = absurd (refused≢accepted _ a)

    one :
        (f : Filling) (e : Edge) →
        (placed frames dom f e).outcome ≡ accepted →
        get_or (map_of s (placed frames dom f e)) p 0 ≡ after_edge frames dom s p (get_or (map_of s f) p 0) e
    unfolding placed lands
    one f e a = go (counts frames dom e) refl a
      where
        found : Option Span
        found = span_of_kind (kind_at frames e.parent)

        go :
            (b : Bool) →
            counts frames dom e ≡ b →
            (pick b (put_under found f e) f).outcome ≡ accepted →
            get_or (map_of s (pick b (put_under found f e) f)) p 0 ≡ after_edge frames dom s p (get_or (map_of s f) p 0) e
        go true c a = under f e found (rw c) a
        go false c a = stays frames dom s p e (get_or (map_of s f) p 0) (rw c)

-- what was accepted in the end was accepted before
pub accepted_before :
    (frames : List (List ℕ)) (dom : ℕ) (es : List Edge) (f : Filling) →
    (placed_all frames dom es f).outcome ≡ accepted → f.outcome ≡ accepted
accepted_before frames dom es f a = go f.outcome refl
  where
    go : (o : Outcome) → f.outcome ≡ o → f.outcome ≡ accepted
    go accepted e = e
    go (refused r) e =
        absurd
        (refused≢accepted r (sym (ap (λ (g : Filling). g.outcome) (place_stop frames dom es f r e) ∙ e) ∙ a))

pub all :
    (frames : List (List ℕ)) (dom : ℕ) (s : Span) (p : ℕ) (es : List Edge) (f : Filling) →
    f.outcome ≡ accepted →
    (placed_all frames dom es f).outcome ≡ accepted →
    get_or (map_of s (placed_all frames dom es f)) p 0 ≡ after_edges frames dom s p (get_or (map_of s f) p 0) es
unfolding after_edges
all frames dom s p [] f h a = ap (λ g. get_or (map_of s g) p 0) (place_none frames dom f)
all frames dom s p (e ∷ es) f h a =
    let next = place_next frames dom e es f h in
    let a' = sym (ap (λ (g : Filling). g.outcome) next) ∙ a in
    let ok = accepted_before frames dom es (placed frames dom f e) a' in
    ap (λ g. get_or (map_of s g) p 0) next
    ∙ all frames dom s p es (placed frames dom f e) ok a'
    ∙ ap (λ k. after_edges frames dom s p k es) (one frames dom p s f e ok)

-- row 17 changes no map
pub held : (s : Span) (f : Filling) → map_of s (conflicts f) ≡ map_of s f
unfolding conflicts
held Base f = refl
held Super f = refl

zero_at : (n p : ℕ) → ◌≡◌ {A = ℕ} (get_or (replicate n 0) p 0) 0
zero_at zero p = refl
zero_at (suc n) zero = refl
zero_at (suc n) (suc p) = zero_at n p

from_cleared : (s : Span) (n m p : ℕ) → get_or (map_of s (cleared_maps n m)) p 0 ≡ 0
from_cleared Base n m p = zero_at n p
from_cleared Super n m p = zero_at m p

module _ (frames : List (List ℕ)) (dom : ℕ) (edges : List Edge) (n m : ℕ) where
  -- an accepted filling placed all edges, and its maps are theirs
  pub all_placed :
      (filled_into frames dom edges n m).outcome ≡ accepted → (placed_all frames dom edges (cleared_maps n m)).outcome ≡ accepted
  unfolding filled_into
  all_placed a = go g.outcome refl
    where
      g : Filling
      g = placed_all frames dom edges (cleared_maps n m)

      go : (o : Outcome) → g.outcome ≡ o → g.outcome ≡ accepted
      go accepted e = e
      go (refused r) e =
          absurd (refused≢accepted r (sym (ap (λ (f : Filling). f.outcome) (off conflicts g r e) ∙ e) ∙ a))

  pub placed_maps :
      (s : Span) → (filled_into frames dom edges n m).outcome ≡ accepted →
      map_of s (filled_into frames dom edges n m) ≡ map_of s (placed_all frames dom edges (cleared_maps n m))
  unfolding filled_into
  placed_maps s a =
      let f = placed_all frames dom edges (cleared_maps n m) in
      ap (map_of s) (on conflicts f (all_placed a)) ∙ held s f

  pub placed_entry :
      (placed_all frames dom edges (cleared_maps n m)).outcome ≡ accepted →
      (s : Span) (p : ℕ) → get_or (map_of s (placed_all frames dom edges (cleared_maps n m))) p 0 ≡ expected frames dom s edges p
  placed_entry a s p =
      all frames dom s p edges (cleared_maps n m) refl a ∙ ap (λ k. after_edges frames dom s p k edges) (from_cleared s n m p)

pub entries : Entries
entries frames dom edges n m a s p =
    ap (λ xs. get_or xs p 0) (placed_maps frames dom edges n m s a)
    ∙ placed_entry frames dom edges n m (all_placed frames dom edges n m a) s p

pub same_entries : SameEntries
same_entries frames dom edges n m n' m' a a' s p =
    entries frames dom edges n m a s p ∙ sym (entries frames dom edges n' m' a' s p)
