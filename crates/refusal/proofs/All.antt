-- Laws of a property of every element of a list, and of every pair.
use Prim.Native.Nat.{ℕ, zero, suc, ◌<◌}
use mathlib.Core.List.{List, [], ◌∷◌}
use native.Mathlib.Nat.{le_of_suc-le-suc, not-suc-le-zero}
use lib.ListN.{length, get_or}
use Rattle.refusal.specs.All.{All, AllPairs}

module _ {A : Type 0} where
  pub all_at : (P : A → Type 0) (xs : List A) (k : ℕ) (d : A) → k < length xs → All P xs → P (get_or xs k d)
  all_at P [] k d h a = absurd (not-suc-le-zero h)
  all_at P (x ∷ xs) zero d h a = a.0
  all_at P (x ∷ xs) (suc k) d h a = all_at P xs k d (le_of_suc-le-suc h) a.1

  pub all_map : (P Q : A → Type 0) → ((x : A) → P x → Q x) → (xs : List A) → All P xs → All Q xs
  all_map P Q f [] a = tt
  all_map P Q f (x ∷ xs) a = (f x a.0, all_map P Q f xs a.1)

  pub all_both : (P Q : A → Type 0) (xs : List A) → All P xs → All Q xs → All (λ x. P x × Q x) xs
  all_both P Q [] a b = tt
  all_both P Q (x ∷ xs) a b = ((a.0, b.0), all_both P Q xs a.1 b.1)

  -- of pairs whose elements have a property
  pub pairs_map :
      (E : A → Type 0) (P Q : A → A → Type 0) → ((x y : A) → E x → E y → P x y → Q x y) →
      (xs : List A) → All E xs → AllPairs P xs → AllPairs Q xs
  pairs_map E P Q f [] e a = tt
  pairs_map E P Q f (x ∷ xs) e a = (
    all_map (λ y. E y × P x y) (Q x) (λ y b. f x y e.0 b.0 b.1) xs (all_both E (P x) xs e.1 a.0),
    pairs_map E P Q f xs e.1 a.1,
  )

  pub all_always : (P : A → Type 0) → ((x : A) → P x) → (xs : List A) → All P xs
  all_always P f [] = tt
  all_always P f (x ∷ xs) = (f x, all_always P f xs)

  -- for every index
  pub all_every : {I : Type 0} (P : I → A → Type 0) (xs : List A) → ((i : I) → All (P i) xs) → All (λ x. (i : I) → P i x) xs
  all_every P [] a = tt
  all_every P (x ∷ xs) a = (λ i. (a i).0, all_every P xs (λ i. (a i).1))
