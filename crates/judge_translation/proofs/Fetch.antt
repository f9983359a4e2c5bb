-- A fetch from the tables from a position on: the table there, or those from the next position on.
use Prim.Native.Nat.{ℕ, ◌+◌, ◌≤◌, ◌<◌}
use mathlib.Core.List.{List}
use mathlib.Core.Path.{◌≡◌}
use native.Mathlib.Numerals.{add-one}
use lib.Dec.{eqb}
use lib.ListN.{length, get_or, drop, drop_of_length-le}
use lib.Seq.{drop-cons}
use Rattle.descent.specs.Descent.{Words, fetch_from}
use Rattle.fields.specs.Named.{pick}
use Rattle.layout.specs.Size.{entries}

module _ (from outside : ℕ) (tables : List ℕ) (t : ℕ) (words : Words) (named j : ℕ) where
  pub fetch_at :
      t < length tables →
      fetch_from from outside (drop t tables) words named j
      ≡ pick (eqb (get_or tables t 0) named) (words (from + j)) (fetch_from (from + entries) outside (drop (t + 1) tables) words named j)
  unfolding fetch_from
  fetch_at inside = rw (add-one, drop-cons tables t 0)

  pub fetch_end : length tables ≤ t → fetch_from from outside (drop t tables) words named j ≡ outside
  unfolding fetch_from
  fetch_end past = rw (drop_of_length-le tables past)
