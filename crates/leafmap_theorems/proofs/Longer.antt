-- Longer maps take every edge that shorter ones take, hold the same entries, and so have no conflict that these have not: all can be
-- filled at full length.
use Rattle.std.specs.Prelude.{Option, Some, None}
use Prim.Native.Nat.{ℕ, ◌≤◌, ◌<◌}
use mathlib.Core.Bool.{Bool, true, false, ◌&&◌}
use mathlib.Core.List.{List, [], ◌∷◌}
use mathlib.Core.Path.{◌≡◌, refl, sym, ap, ap₂, ◌∙◌}
use native.Mathlib.Omega.{arith}
use lib.Dec.{ltb}
use lib.ListN.{length, get_or, length-replicate, get_or-eq_default}
use borrow.Author.Tests.{ltb-true, ltb-false, lt-ltb}
use Rattle.conflict.specs.Conflict.{row17}
use Rattle.edge.specs.Edge.{counts}
use Rattle.edge.specs.declared.Edge.{Edge}
use Rattle.fields.specs.Named.{pick}
use Rattle.fields.specs.Numbers.{nonzero}
use Rattle.filling.proofs.Onward.{on}
use Rattle.filling.proofs.Placed.{place_none, place_next}
use Rattle.filling.specs.Filling.{Filling, map_of, put_in, in_map, put_under, placed, placed_all, conflicts, cleared_maps, filled_into}
use Rattle.layout.specs.Size.{entries as mapEntries}
use Rattle.leafmap_theorems.specs.Entries.{LongerAccepts, FillsWhole}
use Rattle.leafmap_theorems.proofs.Entries.{put_by, accepted_before, all_placed, placed_entry, same_entries}
use Rattle.leafmap_theorems.proofs.Exact.{kept_one, fit, into, short}
use Rattle.p2m.specs.Frame.{kind_at, span_of_kind}
use Rattle.p2m.specs.declared.Span.{Span}
use Rattle.p2m.specs.declared.Span.TheVariants.{Base, Super}
use Rattle.refusal.proofs.None.{none, accept, from_none, from_nowhere, refused≢accepted}
use Rattle.refusal.specs.Table.{accepted, refuse_if}

abbrev Longer : Filling → Filling → Type 0
Longer f g = (s : Span) → length (map_of s f) ≤ length (map_of s g)

-- an edge that is placed in f is placed in g

outcome_of_lem : (u : Span) (f : Filling) (e : Edge) (b : Bool) → (in_map u (put_by b (map_of u f) e) f).outcome ≡ (put_by b (map_of u f) e).outcome
outcome_of_lem Base f e b = refl
outcome_of_lem Super f e b = refl

inside : (xs : List ℕ) (e : Edge) (b : Bool) → ltb e.child (length xs) ≡ b → (put_by b xs e).outcome ≡ accepted → e.child < length xs
inside xs e true t a = ltb-true _ _ t
inside xs e false t a = absurd (refused≢accepted _ a)

takes : (xs : List ℕ) (e : Edge) → e.child < length xs → (put_by (ltb e.child (length xs)) xs e).outcome ≡ accepted
takes xs e h = ap (λ b. (put_by b xs e).outcome) (lt-ltb _ _ h)

under :
    (t : Option Span) (f g : Filling) (e : Edge) → Longer f g →
    (put_under t f e).outcome ≡ accepted → (put_under t g e).outcome ≡ accepted
unfolding put_in
under (Some u) f g e long a =
    let b = ltb e.child (length (map_of u f)) in
    let h = inside (map_of u f) e b refl (sym (outcome_of_lem u f e b) ∙ a) in
    outcome_of_lem u g e (ltb e.child (length (map_of u g))) ∙ takes (map_of u g) e (omega (arith, h, long u))
under None f g e long a = absurd (refused≢accepted _ a)

module _ (frames : List (List ℕ)) (dom : ℕ) where
  one :
      (f g : Filling) (e : Edge) → Longer f g → g.outcome ≡ accepted →
      (placed frames dom f e).outcome ≡ accepted → (placed frames dom g e).outcome ≡ accepted
  unfolding placed
  one f g e long b a = go (counts frames dom e) a
    where
      found : Option Span
      found = span_of_kind (kind_at frames e.parent)

      go : (c : Bool) → (pick c (put_under found f e) f).outcome ≡ accepted → (pick c (put_under found g e) g).outcome ≡ accepted
      go true a = under found f g e long a
      go false a = b

  longer_after : (f g : Filling) (e : Edge) → Longer f g → Longer (placed frames dom f e) (placed frames dom g e)
  longer_after f g e long s =
      let p = kept_one frames dom s f e in
      let q = kept_one frames dom s g e in
      omega (arith, p, q, long s)

  every :
      (es : List Edge) (f g : Filling) → Longer f g → f.outcome ≡ accepted → g.outcome ≡ accepted →
      (placed_all frames dom es f).outcome ≡ accepted → (placed_all frames dom es g).outcome ≡ accepted
  every [] f g long a b h = ap (λ (k : Filling). k.outcome) (place_none frames dom g) ∙ b
  every (e ∷ es) f g long a b h =
      let h' = sym (ap (λ (k : Filling). k.outcome) (place_next frames dom e es f a)) ∙ h in
      let ok = accepted_before frames dom es (placed frames dom f e) h' in
      let ok' = one f g e long b ok in
      ap (λ (k : Filling). k.outcome) (place_next frames dom e es g b)
      ∙ every es (placed frames dom f e) (placed frames dom g e) (longer_after f g e long) ok ok' h'

-- maps with the same entries have the same conflicts

abbrev SameEntries : Filling → Filling → Type 0
SameEntries f g = (s : Span) (p : ℕ) → get_or (map_of s f) p 0 ≡ get_or (map_of s g) p 0

no_entry : (sup : List ℕ) (m entry : ℕ) → entry ≡ 0 → row17 sup m entry ≡ []
unfolding row17
no_entry sup m entry e = rw e

no_conflict : (f g : Filling) → SameEntries f g → (conflicts f).outcome ≡ accepted → (conflicts g).outcome ≡ accepted
unfolding conflicts row17
no_conflict f g same a =
    accept _ (from_nowhere (row17 g.sup) g.base 0 (λ i h. go i (ltb i (length f.base)) refl))
  where
    here : (i : ℕ) → row17 g.sup i (get_or g.base i 0) ≡ row17 f.sup i (get_or f.base i 0)
    here i =
        ap₂ (λ (b s : ℕ). refuse_if (nonzero b && nonzero s) 17 (i ∷ [])) (sym (same Base i)) (sym (same Super i))

    go : (i : ℕ) (b : Bool) → ltb i (length f.base) ≡ b → row17 g.sup i (get_or g.base i 0) ≡ []
    go i true t = here i ∙ from_none (row17 f.sup) f.base 0 (none _ a) i (ltb-true _ _ t)
    go i false t =
        no_entry g.sup i (get_or g.base i 0) (sym (same Base i) ∙ get_or-eq_default f.base 0 (ltb-false _ _ t))

cleared_longer : (n m n' m' : ℕ) → n ≤ n' → m ≤ m' → Longer (cleared_maps n m) (cleared_maps n' m')
cleared_longer n m n' m' h k Base = omega (arith, length-replicate {A = ℕ} n 0, length-replicate {A = ℕ} n' 0)
cleared_longer n m n' m' h k Super = omega (arith, length-replicate {A = ℕ} m 0, length-replicate {A = ℕ} m' 0)

pub longer_accepts : LongerAccepts
unfolding filled_into
longer_accepts frames dom edges n m n' m' h k a =
    let f = placed_all frames dom edges (cleared_maps n m) in
    let g = placed_all frames dom edges (cleared_maps n' m') in
    let ok = all_placed frames dom edges n m a in
    let ok' = every frames dom edges (cleared_maps n m) (cleared_maps n' m') (cleared_longer n m n' m' h k) refl refl ok in
    ap (λ (x : Filling). x.outcome) (on conflicts g ok')
    ∙ no_conflict f g (λ s p. placed_entry frames dom edges n m ok s p ∙ sym (placed_entry frames dom edges n' m' ok' s p))
    (sym (ap (λ (x : Filling). x.outcome) (on conflicts f ok)) ∙ a)

pub fills_whole : FillsWhole
fills_whole frames dom edges base sup a =
    let n = length base in
    let m = length sup in
    let same = into frames dom edges base sup a in
    let fits = fit frames dom edges base sup a in
    let here = sym (ap (λ (f : Filling). f.outcome) same) ∙ a in
    let whole =
    longer_accepts frames dom edges n m mapEntries mapEntries (short frames dom edges base sup Base fits)
    (short frames dom edges base sup Super fits) here in
    record {
      whole = whole;
      same =
          λ s p.
          ap (λ f. get_or (map_of s f) p 0) same
          ∙ same_entries frames dom edges n m mapEntries mapEntries here whole s p;
    }
