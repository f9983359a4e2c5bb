-- Addresses that reach nothing, and addresses whose output is continuous and whose access is equal, one after the other.
use Rattle.std.specs.Prelude.{Option, Some, None}
use Prim.Native.Nat.{ℕ, zero, suc, ◌+◌, ◌≤◌, ◌<◌}
use mathlib.Core.Path.{◌≡◌, refl, sym, ap, ap₂, ◌∙◌}
use native.Mathlib.Omega.{arith}
use Rattle.reach.specs.declared.Reach.{Reach}
use Rattle.runs.specs.Runs.{run, before, with_address, runs_from}
use Rattle.runs.proofs.Joined.{goes_on_lem, one_before}

-- what is reached i bytes on
abbrev pub further : Reach → ℕ → Reach
further r i = record { pa = r.pa + i; perm = r.perm; xn = r.xn }

module _ (f : ℕ → Option Reach) where
  at_suc : (k x n : ℕ) → runs_from f x (suc k + n) ≡ with_address x (f x) (runs_from f (suc x) (k + n))
  unfolding runs_from
  at_suc k x n = let e : suc k + n ≡ suc (k + n) = omega arith in ap (runs_from f x) e

  pub gap : (k x n : ℕ) → ((i : ℕ) → i < k → f (x + i) ≡ None) → runs_from f x (k + n) ≡ runs_from f (x + k) n
  gap zero x n none =
      let none_before : x ≡ x + 0 = omega arith in
      let as_many : 0 + n ≡ n = omega arith in
      ap₂ (runs_from f) none_before as_many
  gap (suc k) x n none =
      let here : x + 0 ≡ x = omega arith in
      let onward : suc x + k ≡ x + suc k = omega arith in
      at_suc k x n
      ∙ ap (λ r. with_address x r (runs_from f (suc x) (k + n))) (ap f (sym here) ∙ none 0 (omega arith))
      ∙ gap k (suc x) n (λ i h. let e : suc x + i ≡ x + suc i = omega arith in ap f e ∙ none (suc i) (omega (arith, h)))
      ∙ ap (λ y. runs_from f y n) onward

  -- suc k addresses
  module _ (x : ℕ) (r : Reach) where
    begins :
        (m : ℕ) → f (x + 0) ≡ Some (further r 0) →
        with_address x (f x) (runs_from f (suc x) m) ≡ before (run x x r) (runs_from f (suc x) m)
    begins m all =
        let here : x + 0 ≡ x = omega arith in
        let same : r.pa + 0 ≡ r.pa = omega arith in
        ap (λ a. with_address x a (runs_from f (suc x) m))
        (ap f (sym here) ∙ all ∙ ap (λ (p : ℕ). Some (record { pa = p; perm = r.perm; xn = r.xn })) same)

    -- one address before those that follow
    lengthens :
        (k m : ℕ) →
        let second = run (suc x) (suc x + k) (further r 1) in
        before (run x x r) (before second (runs_from f (suc x + suc k) m)) ≡ before (run x (x + suc k) r) (runs_from f (x + suc (suc k)) m)
    lengthens k m =
        let second = run (suc x) (suc x + k) (further r 1) in
        let onward : suc x + k ≡ x + suc k = omega arith in
        let last : suc x + suc k ≡ x + suc (suc k) = omega arith in
        one_before (run x x r) second (omega arith) (omega arith)
        (goes_on_lem (run x x r) second (record { next = refl; output = omega arith; access = refl; never = refl }))
        (runs_from f (suc x + suc k) m)
        ∙ ap₂ (λ y rs. before (run x y r) rs) onward (ap (λ y. runs_from f y m) last)

  pub piece :
      (k x n : ℕ) (r : Reach) → ((i : ℕ) → i ≤ k → f (x + i) ≡ Some (further r i)) →
      runs_from f x (suc k + n) ≡ before (run x (x + k) r) (runs_from f (x + suc k) n)
  piece zero x n r all =
      let here : x ≡ x + 0 = omega arith in
      let next : suc x ≡ x + 1 = omega arith in
      let as_many : 0 + n ≡ n = omega arith in
      at_suc 0 x n
      ∙ begins x r (0 + n) (all 0 (omega arith))
      ∙ ap₂ (λ y rs. before (run x y r) rs) here (ap₂ (runs_from f) next as_many)
  piece (suc k) x n r all =
      let later = piece k (suc x) n (further r 1)
      (λ i h. let e : suc x + i ≡ x + suc i = omega arith in
      let p : r.pa + suc i ≡ r.pa + 1 + i = omega arith in
      ap f e ∙ all (suc i) (omega (arith, h)) ∙ ap (λ (p : ℕ). Some (record { pa = p; perm = r.perm; xn = r.xn })) p) in
      at_suc (suc k) x n
      ∙ begins x r (suc k + n) (all 0 (omega arith))
      ∙ ap (before (run x x r)) later
      ∙ lengthens x r k n
