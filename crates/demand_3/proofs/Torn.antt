-- Reads over torn words, of every reader that is a descent.
use Prim.Native.Nat.{ℕ}
use mathlib.Core.List.{List, ◌∷◌}
use mathlib.Core.Logic.{inl, inr}
use mathlib.Core.Path.{◌≡◌, sym, ◌∙◌}
use Rattle.demand_3.specs.Readers.{EachRead}
use Rattle.descent.specs.Descent.{Words}
use Rattle.manual.proofs.OneDescent.{Descent, answer, Either, Torn, torn, same, zeros}

pub along : {A : Type 0} {a b this that : A} → a ≡ b → Either b this that → Either a this that
along e (inl p) = inl (e ∙ p)
along e (inr p) = inr (e ∙ p)

pub towards : {A : Type 0} {a this other that : A} → this ≡ other → Either a this that → Either a other that
towards e (inl p) = inl (p ∙ e)
towards e (inr p) = inr p

module _
    {A : Type 0} (r : Descent A) (reads : List ℕ → (ℕ → Words) → ℕ → A)
    (descends : (tables : List ℕ) (ws : ℕ → Words) (x : ℕ) → reads tables ws x ≡ answer r tables x ws)
  where
    pub reads_torn :
        (tables : List ℕ) (ws : ℕ → Words) (whole : Words) (x : ℕ) → EachRead (λ n. Torn (ws n) whole) →
        Either (reads tables ws x) (reads tables (λ n. whole) x) r.nothing
    reads_torn tables ws whole x t =
        along (descends tables ws x) (towards (sym (descends tables (λ n. whole) x)) (torn r x tables ws whole t))

    pub reads_same :
        (tables : List ℕ) (ws : ℕ → Words) (whole : Words) (x : ℕ) → EachRead (λ n. ws n ≡ whole) →
        reads tables ws x ≡ reads tables (λ n. whole) x
    reads_same tables ws whole x e =
        descends tables ws x ∙ same r tables x ws (λ n. whole) e ∙ sym (descends tables (λ n. whole) x)

    pub reads_zeros :
        (l1 : ℕ) (others : List ℕ) (ws : ℕ → Words) (x : ℕ) → ((i : ℕ) → ws 2 i ≡ 0) → reads (l1 ∷ others) ws x ≡ r.nothing
    reads_zeros l1 others ws x z = descends (l1 ∷ others) ws x ∙ zeros r x l1 others ws z
