-- What stands outside the arena, by the places from a position on: the one there, or those from the next position on.
use Prim.Native.Nat.{ℕ, ◌+◌, ◌≤◌, ◌<◌}
use mathlib.Core.List.{List, []}
use mathlib.Core.Path.{◌≡◌}
use native.Mathlib.Numerals.{add-one}
use lib.ListN.{length, get_or, drop, drop_of_length-le}
use lib.Seq.{drop-cons}
use Rattle.fields.specs.Named.{pick}
use Rattle.judge_translation.specs.Answer.{is_at, elsewhere_of}

module _ (places : List (List ℕ)) (i named j : ℕ) where
  pub elsewhere_at :
      i < length places →
      elsewhere_of (drop i places) named j
      ≡ pick (is_at named j (get_or places i [])) (get_or (get_or places i []) 2 0) (elsewhere_of (drop (i + 1) places) named j)
  unfolding elsewhere_of
  elsewhere_at inside = rw (add-one, drop-cons places i [] inside)

  pub elsewhere_end : length places ≤ i → elsewhere_of (drop i places) named j ≡ 0
  unfolding elsewhere_of
  elsewhere_end past = rw (drop_of_length-le places past)
