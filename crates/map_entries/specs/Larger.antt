-- The largest entry of a map.
use Rattle.std.specs.Prelude.{ℕ, List, max, ltb}
use Rattle.std.specs.List.{fold}
use Rattle.fields.specs.Named.{pick}

abbrev pub larger : ℕ → ℕ → ℕ
larger a b = pick (ltb a b) b a

-- 0 where there is none
unfoldable pub largest : List ℕ → ℕ
largest bs = fold max 0 bs
