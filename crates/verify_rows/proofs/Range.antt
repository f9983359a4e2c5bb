-- Rows over the numbers below a count: those of the first, then those from the next number on.
use Prim.Native.Nat.{ℕ, zero, suc, ◌+◌, ◌-◌, ◌≤◌, ◌<◌}
use mathlib.Core.Bool.{Bool, true, false}
use mathlib.Core.List.{List, [], ◌++◌, flat_map}
use mathlib.Core.Path.{◌≡◌, refl, ap}
use native.Mathlib.Numerals.{add-one}
use native.Mathlib.Omega.{arith}
use lib.Dec.{eqb}
use borrow.Author.Tests.{eqb-true, eqb-false}
use Rattle.refusal.proofs.Loop.{Walk}
use Rattle.refusal.proofs.None.{both}
use Rattle.refusal.specs.Table.{Row, accepted, first, each}
use Rattle.verify_rows.specs.Verifying.{range}

-- the numbers from i on that are below n
abbrev pub rest : ℕ → ℕ → List ℕ
rest n i = range i (n - i)

module _ (f : ℕ → List Row) (n i : ℕ) where
  pub rest_at : i < n → each f (rest n i) ≡ f i ++ each f (rest n (i + 1))
  unfolding flat_map range
  rest_at h = let s : n - i ≡ suc (n - (i + 1)) = omega (arith, h) in rw (s, add-one)

  pub rest_end : n ≤ i → accepted ≡ first (each f (rest n i))
  unfolding first flat_map range
  rest_end h = let z : n - i ≡ 0 = omega (arith, h) in rw z

pub rest_walk : (f : ℕ → List Row) (n : ℕ) → Walk n f (λ i. each f (rest n i))
rest_walk f n = record { step = rest_at f n; end = rest_end f n }

-- numbers with no row are passed over
ahead :
    (f : ℕ → List Row) (n d i : ℕ) →
    i + d ≤ n → ((k : ℕ) → k < i + d → i ≤ k → f k ≡ []) → each f (rest n i) ≡ each f (rest n (i + d))
ahead f n zero i h none = let e : i + 0 ≡ i = omega arith in rw e
ahead f n (suc d) i h none =
    let e : i + suc d ≡ i + 1 + d = omega arith in
    let later = ahead f n d (i + 1) (omega arith) (λ k lt le. none k (omega (arith, lt)) (omega (arith, le))) in
    rw (e, rest_at f n i (omega arith), none i (omega arith) (omega arith)) later

pub passed :
    (f : ℕ → List Row) (n i r : ℕ) →
    i ≤ r → r ≤ n → ((k : ℕ) → k < r → i ≤ k → f k ≡ []) → each f (rest n i) ≡ each f (rest n r)
passed f n i r low high none =
    let e : i + (r - i) ≡ r = omega arith in
    rw e at (ahead f n (r - i) i (omega arith) (λ k lt le. none k (omega (arith, lt)) le))

pub passed_over :
    (f : ℕ → List Row) (n r : ℕ) →
    (r ≤ n) × ((k : ℕ) → k < r → f k ≡ []) → first (each f (rest n 0)) ≡ first (each f (rest n r))
passed_over f n r p = ap first (passed f n 0 r (omega arith) p.0 (λ k lt le. p.1 k lt))

-- where no number has a row there is none

none_from :
    (f : ℕ → List Row) (k n : ℕ) → ((j : ℕ) → k ≤ j → j < k + n → f j ≡ []) → each f (range k n) ≡ []
unfolding flat_map range
none_from f k zero none = refl
none_from f k (suc n) none =
    let here = none k (omega arith) (omega arith) in
    let later = none_from f (suc k) n (λ j lo hi. none j (omega (arith, lo)) (omega (arith, hi))) in rw (here, later)

pub nowhere : (f : ℕ → List Row) (n : ℕ) → ((j : ℕ) → j < n → f j ≡ []) → each f (range 0 n) ≡ []
nowhere f n none = none_from f 0 n (λ j lo hi. none j (omega (arith, hi)))

-- and the other way round

from_none :
    (f : ℕ → List Row) (k n : ℕ) → each f (range k n) ≡ [] → (j : ℕ) → k ≤ j → j < k + n → f j ≡ []
unfolding flat_map range
from_none f k zero e j lo hi = absurd (omega (arith, lo, hi))
from_none f k (suc n) e j lo hi =
    let parts = both (f k) (each f (range (suc k) n)) e in
    go (eqb j k) refl parts.0 (λ past. from_none f (suc k) n parts.1 j past (omega (arith, hi)))
  where
    go : (b : Bool) → eqb j k ≡ b → f k ≡ [] → (suc k ≤ j → f j ≡ []) → f j ≡ []
    go true q here later = rw (eqb-true j k q) here
    go false q here later = let ne = eqb-false j k q in later (omega (arith, lo, ne))

pub everywhere : (f : ℕ → List Row) (n : ℕ) → each f (range 0 n) ≡ [] → (j : ℕ) → j < n → f j ≡ []
everywhere f n e j h = from_none f 0 n e j (omega arith) (omega (arith, h))
