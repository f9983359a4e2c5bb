-- A run before two others: it goes on in the first of them or not, whether that goes on in the next or not.
use Prim.Native.Nat.{suc, ◌+◌, ◌-◌, ◌≤◌}
use mathlib.Core.Bool.{Bool, true, false, ◌&&◌, false≢true}
use mathlib.Core.List.{List, [], ◌∷◌}
use mathlib.Core.Path.{◌≡◌, refl, ap, ◌∙◌}
use native.Mathlib.Omega.{arith}
use lib.Dec.{eqb}
use borrow.Author.Tests.{eqb-true, eq-eqb}
use Rattle.fields.specs.Named.{pick}
use Rattle.fields.specs.Numbers.{bit}
use Rattle.perm.specs.Perm.{perm_code}
use Rattle.runs.specs.Runs.{goes_on, joined, before}
use Rattle.runs.specs.declared.Run.{Run}

-- what it says that a run goes on in the next
pub record Follows (r s : Run) : Type 0 where
  pub next : suc r.last ≡ s.first
  pub output : r.pa + (s.first - r.first) ≡ s.pa
  pub access : perm_code r.perm ≡ perm_code s.perm
  pub never : bit r.xn ≡ bit s.xn

pub follows : (r s : Run) → goes_on r s ≡ true → Follows r s
follows r s e =
    go (eqb (suc r.last) s.first) (eqb (r.pa + (s.first - r.first)) s.pa) (eqb (perm_code r.perm) (perm_code s.perm))
    (eqb (bit r.xn) (bit s.xn)) refl refl refl refl e
  where
    go :
        (a b c d : Bool) →
        eqb (suc r.last) s.first ≡ a →
        eqb (r.pa + (s.first - r.first)) s.pa ≡ b →
        eqb (perm_code r.perm) (perm_code s.perm) ≡ c →
        eqb (bit r.xn) (bit s.xn) ≡ d → (a && b && (c && d)) ≡ true → Follows r s
    go true true true true p q u v t =
        record { next = eqb-true _ _ p; output = eqb-true _ _ q; access = eqb-true _ _ u; never = eqb-true _ _ v }
    go true true true false p q u v t = absurd (false≢true t)
    go true true false d p q u v t = absurd (false≢true t)
    go true false c d p q u v t = absurd (false≢true t)
    go false b c d p q u v t = absurd (false≢true t)

pub goes_on_lem : (r s : Run) → Follows r s → goes_on r s ≡ true
goes_on_lem r s f = rw (eq-eqb _ _ f.next, eq-eqb _ _ f.output, eq-eqb _ _ f.access, eq-eqb _ _ f.never)

pub goes_not_on : (r s : Run) → (Follows r s → ⊥) → goes_on r s ≡ false
goes_not_on r s none = go (goes_on r s) refl
  where
    go : (b : Bool) → goes_on r s ≡ b → b ≡ false
    go false e = refl
    go true e = absurd (none (follows r s e))

-- a run of one address or more
abbrev pub Proper : Run → Type 0
Proper r = r.first ≤ r.last

-- what both as one go on in is what the second goes on in
pub joined_goes_on : (r s t : Run) → Proper r → Proper s → goes_on r s ≡ true → goes_on (joined r s) t ≡ goes_on s t
joined_goes_on r s t p q e = go (eqb (suc s.last) t.first) refl
  where
    f : Follows r s
    f = follows r s e

    go : (b : Bool) → eqb (suc s.last) t.first ≡ b → goes_on (joined r s) t ≡ goes_on s t
    go false z = rw z refl
    go true z =
        let there = eqb-true (suc s.last) t.first z in
        let moved : r.pa + (t.first - r.first) ≡ s.pa + (t.first - s.first) =
        omega (arith, p, q, there, f.next, f.output) in
        rw (z, moved, f.access, f.never) refl

module _ (r s : Run) where
  pub one_before : Proper r → Proper s → goes_on r s ≡ true → (rs : List Run) → before r (before s rs) ≡ before (joined r s) rs
  unfolding before
  one_before p q e [] = ap (λ b. pick b (joined r s ∷ []) (r ∷ s ∷ [])) e
  one_before p q e (t ∷ ts) = go (goes_on s t) refl
    where
      go : (b : Bool) → goes_on s t ≡ b → before r (before s (t ∷ ts)) ≡ before (joined r s) (t ∷ ts)
      go true z = rw (z, joined_goes_on r s t p q e ∙ z, e) refl
      go false z = rw (z, joined_goes_on r s t p q e ∙ z, e) refl

  pub two_before : goes_on r s ≡ false → (rs : List Run) → before r (before s rs) ≡ r ∷ before s rs
  unfolding before
  two_before e [] = ap (λ b. pick b (joined r s ∷ []) (r ∷ s ∷ [])) e
  two_before e (t ∷ ts) = go (goes_on s t) refl
    where
      go : (b : Bool) → goes_on s t ≡ b → before r (before s (t ∷ ts)) ≡ r ∷ before s (t ∷ ts)
      go true z = rw (z, e) refl
      go false z = rw (z, e) refl
