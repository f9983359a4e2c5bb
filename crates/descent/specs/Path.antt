-- The words that a walk reads on its way to an address.
use Rattle.std.specs.Prelude.{Some}
use Rattle.std.specs.Prelude.{ℕ, zero, suc, ◌<◌, List, ◌≡◌, get_or}
use Rattle.descent.specs.Descent.{Words, index, fetch, next_table}
use Rattle.layout.specs.Size.{input_limit}

module _ (tables : List ℕ) (words others : Words) (x : ℕ) where
  -- the word of the table named, with so many levels left below
  abbrev pub word_read : Words → ℕ → ℕ → ℕ
  word_read ws left named = fetch 0 tables ws named (index left x)

  -- from that table on, each word that is read of `words` is that of `others`
  abbrev pub AgreesFrom : ℕ → ℕ → Type 0
  AgreesFrom zero named = word_read words 0 named ≡ word_read others 0 named
  AgreesFrom (suc left) named =
      (word_read words (suc left) named ≡ word_read others (suc left) named)
      × ((next : ℕ) → next_table (word_read words (suc left) named) ≡ Some next → AgreesFrom left next)

  -- an address of 2^39 or more has none
  abbrev pub PathAgrees : Type 0
  PathAgrees = x < input_limit → AgreesFrom 2 (get_or tables 0 0)
