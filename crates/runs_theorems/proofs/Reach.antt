-- What a list of runs says of an address.
use Rattle.std.specs.Prelude.{Some, None}
use Prim.Native.Nat.{ℕ, ◌≤◌, ◌<◌}
use mathlib.Core.Bool.{Bool, true, false, ◌&&◌, false≢true}
use mathlib.Core.List.{List, [], ◌∷◌}
use mathlib.Core.Path.{◌≡◌, refl, ap, ◌∙◌}
use native.Mathlib.Omega.{arith}
use lib.Dec.{leb}
use borrow.Author.Tests.{leb-true, le-leb, lt-leb}
use Rattle.fields.specs.Named.{pick}
use Rattle.fields.specs.Numbers.{bit}
use Rattle.perm.specs.Perm.{perm_code}
use Rattle.perm.specs.declared.Perm.{Perm}
use Rattle.perm.specs.declared.Perm.TheVariants.{Ro, Rw, Rx}
use Rattle.reach.specs.declared.Reach.{Reach}
use Rattle.refusal.specs.All.{All}
use Rattle.runs.specs.declared.Run.{Run}
use Rattle.runs_theorems.specs.LongestRuns.{holds, run_reach, reach_in}

-- something is not nothing, and is what it is
pub reached≢nothing : (a : Reach) → Some a ≡ None → ⊥
reached≢nothing a e = let z : ◌≡◌ {A = ℕ} 0 1 = cc in omega arith

pub same_reach : (a b : Reach) → Some a ≡ Some b → a ≡ b
same_reach a b e = cc

pub same_perm : (p q : Perm) → perm_code p ≡ perm_code q → p ≡ q
same_perm Ro Ro e = refl
same_perm Rw Rw e = refl
same_perm Rx Rx e = refl
same_perm Ro Rw e = absurd (omega (arith, e))
same_perm Ro Rx e = absurd (omega (arith, e))
same_perm Rw Ro e = absurd (omega (arith, e))
same_perm Rw Rx e = absurd (omega (arith, e))
same_perm Rx Ro e = absurd (omega (arith, e))
same_perm Rx Rw e = absurd (omega (arith, e))

pub same_bit : (a b : Bool) → bit a ≡ bit b → a ≡ b
same_bit true true e = refl
same_bit false false e = refl
same_bit true false e = absurd (omega (arith, e))
same_bit false true e = absurd (omega (arith, e))

module _ (r : Run) (x : ℕ) where
  pub held : r.first ≤ x → x ≤ r.last → holds r x ≡ true
  held a b = rw (le-leb _ _ a, le-leb _ _ b) refl

  pub before_held : x < r.first → holds r x ≡ false
  before_held a = rw (lt-leb _ _ a) refl

  pub after_held : r.last < x → holds r x ≡ false
  after_held a = go (leb r.first x)
    where
      go : (b : Bool) → (b && leb x r.last) ≡ false
      go true = lt-leb _ _ a
      go false = refl

  pub holds_true : holds r x ≡ true → (r.first ≤ x) × (x ≤ r.last)
  holds_true e = go (leb r.first x) (leb x r.last) refl refl e
    where
      go : (a b : Bool) → leb r.first x ≡ a → leb x r.last ≡ b → (a && b) ≡ true → (r.first ≤ x) × (x ≤ r.last)
      go true true p q t = (leb-true _ _ p, leb-true _ _ q)
      go true false p q t = absurd (false≢true t)
      go false b p q t = absurd (false≢true t)

  pub in_first : (rs : List Run) → r.first ≤ x → x ≤ r.last → reach_in (r ∷ rs) x ≡ run_reach r x
  unfolding reach_in
  in_first rs a b = ap (λ t. pick t (run_reach r x) (reach_in rs x)) (held a b)

  pub past_first : (rs : List Run) → r.last < x → reach_in (r ∷ rs) x ≡ reach_in rs x
  unfolding reach_in
  past_first rs a = ap (λ t. pick t (run_reach r x) (reach_in rs x)) (after_held a)

-- before all of them
pub in_none : (rs : List Run) (x : ℕ) → All (λ r. x < r.first) rs → reach_in rs x ≡ None
unfolding reach_in
in_none [] x a = refl
in_none (r ∷ rs) x a = ap (λ t. pick t (run_reach r x) (reach_in rs x)) (before_held r x a.0) ∙ in_none rs x a.1
