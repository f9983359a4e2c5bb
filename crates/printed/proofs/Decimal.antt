-- A number's last digit, and those before it.
use Rattle.std.proofs.Common.{ℕ, zero, suc, ◌+◌, ◌-◌, ◌/◌, ◌%◌, ◌<◌, ◌≤◌, Bool, true, false, [], ◌∷◌, ◌++◌, ◌≡◌, refl, ap, arith, ltb, length}
use Rattle.std.proofs.lemmas.List.{length-append}
use Rattle.fields.specs.Named.{pick}
use Rattle.printed.specs.Line.{decimal}

pub last_of : (k n : ℕ) → 0 < k → decimal k n ≡ pick (ltb n 10) [] (decimal (k - 1) (n / 10)) ++ ((48 + n % 10) ∷ [])
unfolding decimal
last_of zero n some = absurd (omega (arith, some))
last_of (suc k) n some =
    let before : k ≡ suc k - 1 = omega arith in
    ap (λ j. pick (ltb n 10) [] (decimal j (n / 10)) ++ ((48 + n % 10) ∷ [])) before

pub none_of : (k n : ℕ) → k ≡ 0 → decimal k n ≡ []
unfolding decimal
none_of k n none = rw none refl

pub ruleset decimals = (last_of, none_of)

-- as many digits as there is room for
pub few_digits : (k n : ℕ) → length (decimal k n) ≤ k
unfolding decimal
few_digits zero n = omega arith
few_digits (suc k) n =
    let front = pick (ltb n 10) [] (decimal k (n / 10)) in
    omega (arith, length-append front ((0x30 + n % 10) ∷ []), go (ltb n 10) (few_digits k (n / 10)))
  where
    go : (b : Bool) → length (decimal k (n / 10)) ≤ k → length (pick b [] (decimal k (n / 10))) ≤ k
    go true few = omega arith
    go false few = few
