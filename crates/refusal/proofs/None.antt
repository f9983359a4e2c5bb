-- What it says that no row applies, of each part of a list of rows and of a row's test; and when none does.
use Prim.Native.Nat.{ℕ, zero, suc, ◌+◌, ◌<◌, zero-le, suc-le-suc}
use mathlib.Core.Bool.{Bool, true, false}
use mathlib.Core.List.{List, [], ◌∷◌, ◌++◌, flat_map}
use mathlib.Core.Path.{◌≡◌, refl}
use native.Mathlib.Nat.{le_of_suc-le-suc, not-suc-le-zero}
use native.Mathlib.Omega.{arith}
use lib.ListN.{length, get_or}
use Rattle.refusal.specs.All.{All, AllPairs}
use Rattle.refusal.specs.Table.{Row, row, accepted, refused, first, given, refuse_if, each, each_from, pairs}

pub none : (rows : List Row) → first rows ≡ accepted → rows ≡ []
unfolding first
none [] e = refl
none (r ∷ rs) e = absurd (let z : ◌≡◌ {A = ℕ} 0 1 = cc in omega arith)

pub refused≢accepted : (r : Row) → refused r ≡ accepted → ⊥
refused≢accepted r e = absurd (let z : ◌≡◌ {A = ℕ} 0 1 = cc in omega arith)

pub accept : (rows : List Row) → rows ≡ [] → first rows ≡ accepted
unfolding first
accept rows e = rw e

pub both : (xs ys : List Row) → xs ++ ys ≡ [] → (xs ≡ []) × (ys ≡ [])
both [] ys e = (refl, e)
both (x ∷ xs) ys e = absurd (let z : ◌≡◌ {A = ℕ} 0 1 = cc in omega arith)

pub only : (t : Bool) (r : Row) → given t (r ∷ []) ≡ [] → t ≡ false
only true r e = absurd (let z : ◌≡◌ {A = ℕ} 0 1 = cc in omega arith)
only false r e = refl

pub test : (t : Bool) (n : ℕ) (vs : List ℕ) → refuse_if t n vs ≡ [] → t ≡ false
test t n vs e = only t (row n vs) e

pub under : (t : Bool) (rows : List Row) → t ≡ true → given t rows ≡ [] → rows ≡ []
under true rows h e = e
under false rows h e = absurd (let z : ◌≡◌ {A = ℕ} 0 1 = cc in omega arith)

pub each_none : {A : Type 0} (f : A → List Row) (xs : List A) → each f xs ≡ [] → All (λ x. f x ≡ []) xs
unfolding flat_map
each_none f [] e = tt
each_none f (x ∷ xs) e = let p = both (f x) (each f xs) e in (p.0, each_none f xs p.1)

pub each_nowhere : {A : Type 0} (f : A → List Row) (xs : List A) → All (λ x. f x ≡ []) xs → each f xs ≡ []
unfolding flat_map
each_nowhere f [] all = refl
each_nowhere f (x ∷ xs) all = rw (all.0, each_nowhere f xs all.1)

pub pairs_none : {A : Type 0} (f : A → A → List Row) (xs : List A) → pairs f xs ≡ [] → AllPairs (λ x y. f x y ≡ []) xs
unfolding pairs
pairs_none f [] e = tt
pairs_none f (x ∷ xs) e =
    let p = both (each (f x) xs) (pairs f xs) e in (each_none (f x) xs p.0, pairs_none f xs p.1)

from :
    {A : Type 0} (f : ℕ → A → List Row) (k : ℕ) (xs : List A) (d : A) →
    each_from f k xs ≡ [] → (i : ℕ) → i < length xs → f (k + i) (get_or xs i d) ≡ []
unfolding each_from
from f k [] d e i h = absurd (not-suc-le-zero h)
from f k (x ∷ xs) d e zero h =
    let s : k + 0 ≡ k = omega arith in rw s (both (f k x) (each_from f (suc k) xs) e).0
from f k (x ∷ xs) d e (suc i) h =
    let s : k + suc i ≡ suc k + i = omega arith in
    rw s (from f (suc k) xs d (both (f k x) (each_from f (suc k) xs) e).1 i (le_of_suc-le-suc h))

nowhere :
    {A : Type 0} (f : ℕ → A → List Row) (k : ℕ) (xs : List A) (d : A) →
    ((i : ℕ) → i < length xs → f (k + i) (get_or xs i d) ≡ []) → each_from f k xs ≡ []
unfolding each_from
nowhere f k [] d all = refl
nowhere f k (x ∷ xs) d all =
    let z : k + 0 ≡ k = omega arith in
    let here : f k x ≡ [] = rw z at (all 0 (suc-le-suc zero-le)) in
    let later = nowhere f (suc k) xs d (λ i h. let s : suc k + i ≡ k + suc i = omega arith in rw s (all (suc i) (suc-le-suc h))) in
    rw (here, later)

pub from_nowhere :
    {A : Type 0} (f : ℕ → A → List Row) (xs : List A) (d : A) →
    ((i : ℕ) → i < length xs → f i (get_or xs i d) ≡ []) → each_from f 0 xs ≡ []
from_nowhere f xs d all = nowhere f 0 xs d (λ i h. let s : 0 + i ≡ i = omega arith in rw s (all i h))

pub from_none :
    {A : Type 0} (f : ℕ → A → List Row) (xs : List A) (d : A) →
    each_from f 0 xs ≡ [] → (i : ℕ) → i < length xs → f i (get_or xs i d) ≡ []
from_none f xs d e i h = let s : 0 + i ≡ i = omega arith in rw s at (from f 0 xs d e i h)
