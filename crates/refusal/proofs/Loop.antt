-- A loop of verdicts over rows by position: a refusing verdict decides, an accepting one is passed over, and at the end there is none.
use Rattle.std.specs.Prelude.{Ok, Err, Result}
use Prim.Native.Nat.{ℕ, ◌+◌, ◌≤◌, ◌<◌}
use mathlib.Core.List.{List, ◌++◌}
use mathlib.Core.Path.{◌≡◌, sym, ◌∙◌}
use native.Mathlib.Omega.{arith}
use lib.ListN.{length, get_or, drop}
use Rattle.refusal.specs.Outcome.{outcome_of}
use Rattle.refusal.specs.Table.{Row, Outcome, accepted, first, each, pairs}
use Rattle.refusal.specs.declared.Refusal.{Refusal}
use Rattle.refusal.proofs.Sequence.{next, stop}
use Rattle.refusal.proofs.Parts.{each_at, each_end, pairs_at, pairs_end}

-- the rows from i on are those of i, then those from i + 1 on; from n on there are none
pub record Walk (n : ℕ) (here from : ℕ → List Row) : Type 0 where
  pub step : (i : ℕ) → i < n → from i ≡ here i ++ from (i + 1)
  pub end : (i : ℕ) → n ≤ i → accepted ≡ first (from i)

-- where the answer is the first row from i on
module _ {n : ℕ} {here from : ℕ → List Row} (w : Walk n here from) (i : ℕ) {o : Outcome} (inv : o ≡ first (from i)) where
  pub refuses :
      i < n → {v : Result Unit Refusal} {r : Refusal} → v ≡ Err r → outcome_of v ≡ first (here i) → outcome_of v ≡ o
  refuses h {v} {r} told e = stop _ _ v r (w.step i h) told e ∙ sym inv

  pub passes : i < n → {v : Result Unit Refusal} → v ≡ Ok tt → outcome_of v ≡ first (here i) → o ≡ first (from (i + 1))
  passes h {v} told e = inv ∙ next _ _ v (w.step i h) told e

  pub ends : n ≤ i → accepted ≡ o
  ends h = w.end i h ∙ sym inv

-- over the elements of a list, and over its pairs
module _ {A : Type 0} {n : ℕ} (xs : List A) (d : A) (long : length xs ≡ n) where
  pub each_walk : (f : A → List Row) → Walk n (λ i. f (get_or xs i d)) (λ i. each f (drop i xs))
  each_walk f =
      record { step = λ i h. each_at xs i d (omega (arith, long, h)) f; end = λ i h. each_end xs i (omega (arith, long, h)) f }

  pub pairs_walk :
      (f : A → A → List Row) → Walk n (λ i. each (f (get_or xs i d)) (drop (i + 1) xs)) (λ i. pairs f (drop i xs))
  pairs_walk f =
      record { step = λ i h. pairs_at xs i d (omega (arith, long, h)) f; end = λ i h. pairs_end xs i (omega (arith, long, h)) f }
