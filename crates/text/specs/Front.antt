-- A text in a buffer that is lent for it.
use Rattle.std.specs.Prelude.{ℕ, ◌+◌, List, ◌++◌, leb, length, drop}
use Rattle.std.proofs.Math.Seq.{paste}
use Rattle.fields.specs.Named.{pick}

-- in the front; the rest stays
abbrev pub in_front : List ℕ → List ℕ → List ℕ
in_front text old = text ++ drop (length text) old

-- from an index on, where there is room; else the buffer stays
unfoldable pub put_at : List ℕ → List ℕ → ℕ → List ℕ
put_at text old at = pick (leb (at + length text) (length old)) (paste old at text (length text)) old
