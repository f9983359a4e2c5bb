-- Addresses by one entry: they are a run, or reach nothing.
use Rattle.std.specs.Prelude.{Option, Some, None}
use Rattle.reach.specs.declared.Reach.{Reach}
use Prim.Native.Nat.{ℕ, suc, min, ◌+◌, ◌-◌, ◌*◌, ◌/◌, ◌≤◌, ◌<◌}
use mathlib.Core.Bool.{Bool, true, false}
use mathlib.Core.List.{List}
use mathlib.Core.Path.{◌≡◌, refl, sym, ap, ap₂, ◌∙◌}
use native.Mathlib.Nat.{zero-mul, suc-mul, mul-add-div_right, div-eq_of_lt, mul-le-mul_right}
use native.Mathlib.Omega.{arith}
use lib.Dec.{eqb, ltb}
use lib.ListN.{length, get_or, get_or-eq_default}
use borrow.Author.Tests.{ltb-true, ltb-false}
use Rattle.fields.specs.Named.{pick}
use Rattle.annex.specs.Writing.{piece_before}
use Rattle.perm.specs.Perm.{perm_code, entry_named}
use Rattle.perm.specs.declared.Perm.{Perm}
use Rattle.perm.specs.declared.Perm.TheVariants.{Ro, Rw, Rx}
use Rattle.runs.proofs.Pieces.{further, gap, piece}
use Rattle.runs.specs.Runs.{run, before, runs_from}
use Rattle.runs.specs.declared.Run.{Run}
use Rattle.window_reach.specs.Granted.{by_entry}

-- what is reached i bytes on
abbrev moved : Option Reach → ℕ → Option Reach
moved (Some r) i = Some (further r i)
moved None i = None

by_entry_moved : (pa i : ℕ) (exempt : Bool) (e : ℕ) → by_entry (pa + i) exempt e ≡ moved (by_entry pa exempt e) i
by_entry_moved pa i exempt e = go (eqb e 1) (eqb e 2) (eqb e 3) refl refl refl
  where
    go :
        (a b c : Bool) → eqb e 1 ≡ a → eqb e 2 ≡ b → eqb e 3 ≡ c →
        by_entry (pa + i) exempt e ≡ moved (by_entry pa exempt e) i
    go true b c p q r = rw p refl
    go false true c p q r = rw (p, q) refl
    go false false true p q r = rw (p, q, r) refl
    go false false false p q r = rw (p, q, r) refl

-- by what a byte of a map names
pub by_named : (pa : ℕ) (exempt : Bool) (e : ℕ) (p : Perm) → entry_named e ≡ Some p → by_entry pa exempt e ≡ by_entry pa exempt (perm_code p)
by_named pa exempt e p is = go (eqb e 1) (eqb e 2) (eqb e 3) refl refl refl is
  where
    go :
        (a b c : Bool) → eqb e 1 ≡ a → eqb e 2 ≡ b → eqb e 3 ≡ c →
        pick a (Some Ro) (pick b (Some Rw) (pick c (Some Rx) None)) ≡ Some p → by_entry pa exempt e ≡ by_entry pa exempt (perm_code p)
    go true b c q r s t = let same : Ro ≡ p = cc in rw (q, ← same) refl
    go false true c q r s t = let same : Rw ≡ p = cc in rw (q, r, ← same) refl
    go false false true q r s t = let same : Rx ≡ p = cc in rw (q, r, s, ← same) refl
    go false false false q r s t = cc

pub by_unnamed : (pa : ℕ) (exempt : Bool) (e : ℕ) → entry_named e ≡ None → by_entry pa exempt e ≡ None
by_unnamed pa exempt e is = go (eqb e 1) (eqb e 2) (eqb e 3) refl refl refl is
  where
    go :
        (a b c : Bool) → eqb e 1 ≡ a → eqb e 2 ≡ b → eqb e 3 ≡ c →
        pick a (Some Ro) (pick b (Some Rw) (pick c (Some Rx) None)) ≡ None → by_entry pa exempt e ≡ None
    go true b c q r s t = cc
    go false true c q r s t = cc
    go false false true q r s t = cc
    go false false false q r s t = rw (q, r, s) refl

module _ (f : ℕ → Option Reach) (x size n : ℕ) (some : 0 < size) where
  -- by the answer at the first of them
  by_first :
      (r : Option Reach) → ((i : ℕ) → i < size → f (x + i) ≡ moved r i) →
      runs_from f x (size + n) ≡ piece_before x (x + (size - 1)) r (runs_from f (x + size) n)
  by_first (Some r) all =
      let e : suc (size - 1) ≡ size = omega (arith, some) in
      ap (λ k. runs_from f x (k + n)) (sym e)
      ∙ piece f (size - 1) x n r (λ i h. all i (omega (arith, h, some)))
      ∙ ap (λ k. before (run x (x + (size - 1)) r) (runs_from f (x + k) n)) e
  by_first None all = gap f size x n all

  pub one_entry :
      (pa : ℕ) (exempt : Bool) (e : ℕ) → ((i : ℕ) → i < size → f (x + i) ≡ by_entry (pa + i) exempt e) →
      runs_from f x (size + n) ≡ piece_before x (x + (size - 1)) (by_entry pa exempt e) (runs_from f (x + size) n)
  one_entry pa exempt e all = by_first (by_entry pa exempt e) (λ i h. all i h ∙ by_entry_moved pa i exempt e)

pub piece_ends : (count size p : ℕ) → p < count → p * size + size ≤ count * size
piece_ends count size p h = omega (arith, mul-le-mul_right size h, suc-mul p size)

-- the runs from piece p of some on
abbrev pub on_from : (ℕ → Option Reach) → ℕ → ℕ → ℕ → ℕ → ℕ → List Run
on_from f ipa count size n p = runs_from f (ipa + p * size) (count * size - p * size + n)

module _ (f : ℕ → Option Reach) (ipa count size n : ℕ) where
  pub from_first : runs_from f ipa (count * size + n) ≡ on_from f ipa count size n 0
  from_first =
      let none : ipa ≡ ipa + 0 * size = omega (arith, zero-mul size) in
      let all : count * size + n ≡ count * size - 0 * size + n = omega (arith, zero-mul size) in
      ap₂ (runs_from f) none all

  pub from_last : on_from f ipa count size n count ≡ runs_from f (ipa + count * size) n
  from_last =
      let none : count * size - count * size + n ≡ n = omega arith in
      ap (runs_from f (ipa + count * size)) none

  module _
      (pa : ℕ) (exempt : Bool) (entry : ℕ → ℕ) (some : 0 < size)
      (grants : (i : ℕ) → i < count * size → f (ipa + i) ≡ by_entry (pa + i) exempt (entry (i / size)))
      (p : ℕ)
    where
      -- no entry from p on maps
      none_from : p ≤ count → ((q : ℕ) → p ≤ q → entry q ≡ 0) → on_from f ipa count size n p ≡ on_from f ipa count size n count
      none_from few unmapped =
          let x = ipa + p * size in
          let left = count * size - p * size in
          let ends = mul-le-mul_right size few in
          let there : x + left ≡ ipa + count * size = omega (arith, ends) in
          let none : n ≡ count * size - count * size + n = omega arith in
          gap f left x n
          (λ i h. let at : x + i ≡ ipa + (p * size + i) = omega arith in
          let more : p ≤ (p * size + i) / size = omega (arith, mul-add-div_right some p i) in
          ap f at
          ∙ grants (p * size + i) (omega (arith, h))
          ∙ ap (by_entry (pa + (p * size + i)) exempt) (unmapped ((p * size + i) / size) more))
          ∙ ap₂ (runs_from f) there none

  -- past the map there are none
  pub past_map :
      (pa : ℕ) (exempt : Bool) (map : List ℕ) → 0 < size →
      ((i : ℕ) → i < count * size → f (ipa + i) ≡ by_entry (pa + i) exempt (get_or map (i / size) 0)) →
      on_from f ipa count size n (min (length map) count) ≡ on_from f ipa count size n count
  past_map pa exempt map some grants = go (ltb (length map) count) refl
    where
      go : (t : Bool) → ltb (length map) count ≡ t → on_from f ipa count size n (min (length map) count) ≡ on_from f ipa count size n count
      go true e =
          let h : length map < count = ltb-true (length map) count e in
          let all : min (length map) count ≡ length map = omega (arith, h) in
          ap (on_from f ipa count size n) all
          ∙ none_from pa exempt (λ q. get_or map q 0) some grants (length map) (omega (arith, h)) (λ q more. get_or-eq_default map 0 more)
      go false e =
          let h : count ≤ length map = ltb-false (length map) count e in
          let all : min (length map) count ≡ count = omega (arith, h) in ap (on_from f ipa count size n) all

  module _
      (pa : ℕ) (exempt : Bool) (entry : ℕ → ℕ) (some : 0 < size)
      (grants : (i : ℕ) → i < count * size → f (ipa + i) ≡ by_entry (pa + i) exempt (entry (i / size)))
      (p : ℕ)
      (h : p < count)
    where
      within : (i : ℕ) → i < size → f (ipa + p * size + i) ≡ by_entry (pa + p * size + i) exempt (entry p)
      within i few =
          let there : ipa + p * size + i ≡ ipa + (p * size + i) = omega arith in
          let none : i / size ≡ 0 = div-eq_of_lt few in
          let at : (p * size + i) / size ≡ p = omega (arith, mul-add-div_right some p i, none) in
          let output : pa + (p * size + i) ≡ pa + p * size + i = omega arith in
          ap f there
          ∙ grants (p * size + i) (omega (arith, piece_ends count size p h, few))
          ∙ ap₂ (λ (o k : ℕ). by_entry o exempt (entry k)) output at

      pub next_piece :
          let x = ipa + p * size in
          on_from f ipa count size n p
          ≡ piece_before x (x + (size - 1)) (by_entry (pa + p * size) exempt (entry p)) (on_from f ipa count size n (suc p))
      next_piece =
          let x = ipa + p * size in
          let left = count * size - suc p * size + n in
          let one_less : count * size - p * size + n ≡ size + left = omega (arith, piece_ends count size p h, suc-mul p size) in
          let onward : x + size ≡ ipa + suc p * size = omega (arith, suc-mul p size) in
          ap (runs_from f x) one_less
          ∙ one_entry f x size left some (pa + p * size) exempt (entry p) within
          ∙ ap (λ (y : ℕ). piece_before x (x + (size - 1)) (by_entry (pa + p * size) exempt (entry p)) (runs_from f y left)) onward
