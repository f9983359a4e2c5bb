-- The rows of a list from a position on: those of the element there, and those from the next position on.
use Prim.Native.Nat.{ℕ, ◌+◌, ◌≤◌, ◌<◌}
use mathlib.Core.List.{List, ◌++◌, flat_map}
use mathlib.Core.Path.{◌≡◌}
use native.Mathlib.Numerals.{add-one}
use lib.ListN.{length, get_or, drop, drop_of_length-le}
use lib.Seq.{drop-cons}
use Rattle.refusal.specs.Table.{Row, accepted, first, each, each_from, pairs}

module _ {A : Type 0} (xs : List A) (i : ℕ) (d : A) (inside : i < length xs) where
  pub each_at : (f : A → List Row) → each f (drop i xs) ≡ f (get_or xs i d) ++ each f (drop (i + 1) xs)
  unfolding flat_map
  each_at f = rw (add-one, drop-cons xs i d)

  pub pairs_at :
      (f : A → A → List Row) →
      pairs f (drop i xs) ≡ each (f (get_or xs i d)) (drop (i + 1) xs) ++ pairs f (drop (i + 1) xs)
  unfolding pairs
  pairs_at f = rw (add-one, drop-cons xs i d)

  pub from_at :
      (f : ℕ → A → List Row) →
      each_from f i (drop i xs) ≡ f i (get_or xs i d) ++ each_from f (i + 1) (drop (i + 1) xs)
  unfolding each_from
  from_at f = rw (add-one, drop-cons xs i d)

module _ {A : Type 0} (xs : List A) (i : ℕ) (outside : length xs ≤ i) where
  pub each_end : (f : A → List Row) → accepted ≡ first (each f (drop i xs))
  unfolding first flat_map
  each_end f = rw (drop_of_length-le xs outside)

  pub pairs_end : (f : A → A → List Row) → accepted ≡ first (pairs f (drop i xs))
  unfolding first pairs
  pairs_end f = rw (drop_of_length-le xs outside)

  pub from_end : (f : ℕ → A → List Row) → accepted ≡ first (each_from f i (drop i xs))
  unfolding first each_from
  from_end f = rw (drop_of_length-le xs outside)
