-- What is noted of the edges is, frame by frame, the last matching edge.
use Prim.Native.Nat.{ℕ, ◌<◌}
use mathlib.Core.Bool.{Bool, true, false}
use mathlib.Core.List.{List}
use mathlib.Core.Path.{◌≡◌, refl, sym, ap, ◌∙◌}
use native.Mathlib.Omega.{arith}
use lib.Dec.{eqb}
use lib.ListN.{length, get_or, set, replicate, get_or-replicate}
use lib.Seq.{get_or-set_same, get_or-set_other}
use borrow.Author.Tests.{eqb-true, eqb-false}
use Rattle.std.proofs.lemmas.List.{length-set}
use Rattle.std.proofs.lemmas.List.Folds.{fold_along}
use Rattle.std.specs.List.{fold}
use Rattle.edge.specs.Edge.{entry_of}
use Rattle.edge.specs.declared.Edge.{Edge}
use Rattle.expected.specs.Expected.{lands, noted, after_edge, after_edges, expected}
use Rattle.fields.specs.Named.{pick}
use Rattle.layout.specs.Size.{entries}
use Rattle.p2m.specs.declared.Span.{Span}

-- frame m is inside, and has this entry
abbrev Held : ℕ → List ℕ → ℕ → Type 0
Held m xs entry = (m < length xs) × (get_or xs m 0 ≡ entry)

module _ (frames : List (List ℕ)) (dom : ℕ) (s : Span) (m : ℕ) (e : Edge) where
  pub stays : (entry : ℕ) → lands frames dom s e ≡ false → entry ≡ after_edge frames dom s m entry e
  unfolding after_edge
  stays entry l = rw l

  pub stored :
      (xs : List ℕ) → lands frames dom s e ≡ true → (e.child ≡ m → m < length xs) →
      get_or (set xs e.child (entry_of e)) m 0 ≡ after_edge frames dom s m (get_or xs m 0) e
  unfolding after_edge
  stored xs l inside = rw l (go (eqb e.child m) refl)
    where
      go : (b : Bool) → eqb e.child m ≡ b → get_or (set xs e.child (entry_of e)) m 0 ≡ pick b (entry_of e) (get_or xs m 0)
      go true t =
          let here = eqb-true e.child m t in
          rw (sym here) (get_or-set_same xs e.child (entry_of e) 0 (omega (arith, here, inside here)))
      go false t =
          let other = eqb-false e.child m t in get_or-set_other xs e.child m (entry_of e) 0 (λ q. other (sym q))

  one : (xs : List ℕ) (entry : ℕ) → Held m xs entry → Held m (noted frames dom s xs e) (after_edge frames dom s m entry e)
  one xs entry h = go (lands frames dom s e) refl
    where
      go : (l : Bool) → lands frames dom s e ≡ l → Held m (pick l (set xs e.child (entry_of e)) xs) (after_edge frames dom s m entry e)
      go true l =
          (omega (arith, h.0, length-set xs e.child (entry_of e)), rw h.1 at (stored xs l (λ here. h.0)))
      go false l = (h.0, h.1 ∙ stays entry l)

pub noted_each :
    (frames : List (List ℕ)) (dom : ℕ) (s : Span) (xs ys : List ℕ) (e : Edge) → ys ≡ noted frames dom s xs e →
    (m : ℕ) → m < length xs → get_or ys m 0 ≡ after_edge frames dom s m (get_or xs m 0) e
noted_each frames dom s xs ys e same m inside =
    ap (λ zs. get_or zs m 0) same ∙ (one frames dom s m e xs (get_or xs m 0) (inside, refl)).1

pub noted_all :
    (frames : List (List ℕ)) (dom : ℕ) (s : Span) (edges : List Edge) (xs : List ℕ) →
    xs ≡ fold (noted frames dom s) (replicate entries 0) edges →
    (m : ℕ) → m < entries → get_or xs m 0 ≡ expected frames dom s edges m
unfolding after_edges
noted_all frames dom s edges xs all m inside =
    ap (λ ys. get_or ys m 0) all
    ∙ (fold_along (noted frames dom s) (after_edge frames dom s m) (Held m) (λ ys entry e. one frames dom s m e ys entry) (replicate entries 0) 0 edges
    (inside, get_or-replicate entries m 0 0 inside)).1
