-- Digits read one after the other.
use Rattle.std.proofs.Common.{ℕ, ◌^◌, ◌≤◌, ◌<◌, Bool, true, false, List, ◌≡◌, refl, sym, ap₂, arith, length, get_or, take, Some, None}
use Rattle.std.proofs.lemmas.List.Folds.{fold_stuck}
use native.Mathlib.Nat.{pow-le-pow_right}
use Rattle.fields.specs.Named.{pick}
use Rattle.scene_line.specs.Line.{within, digit_of, with_digit, with_digits, number_of}

-- fewer than 16 are below 16 ^ 15, so that one more fits
pub few_digits : (i : ℕ) → i < 16 → 16 ^ i ≤ 16 ^ 15
few_digits i few = pow-le-pow_right (omega arith) {j = 15} (omega (arith, few))

-- a byte that is no digit ends the number
pub no_digit :
    (cs : List ℕ) (n i : ℕ) → i < length cs → with_digits (Some 0) (take i cs) ≡ Some n → digit_of (get_or cs i 0) ≡ None →
    number_of cs ≡ None
unfolding number_of
no_digit cs n i inside read bad = go (within 1 16 (length cs))
  where
    go : (b : Bool) → pick b (with_digits (Some 0) cs) None ≡ None
    go true = sym (fold_stuck (λ m c. with_digit m (digit_of c)) None (λ c. refl) (Some 0) cs i 0 inside (ap₂ with_digit read bad))
    go false = refl
