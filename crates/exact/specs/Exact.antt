-- Row 25 of document 01's table ("Leaf maps"): a map beside the entries that edges give.
use Rattle.std.specs.Prelude.{ℕ, not, List, [], ◌∷◌, eqb}
use Rattle.edge.specs.declared.Edge.{Edge}
use Rattle.expected.specs.Expected.{expected}
use Rattle.p2m.specs.Frame.{span_code}
use Rattle.p2m.specs.declared.Span.{Span}
use Rattle.perm.specs.Perm.{entry_named}
use Rattle.refusal.specs.Outcome.{refuse}
use Rattle.refusal.specs.Table.{Row, each_from, all_rows}
use Rattle.refusal.specs.declared.Refusal.TheVariants.{Inexact}
use Rattle.rows.specs.Rows.{read_rows}

-- row 25: an entry is not the expected one
unfoldable pub row25 : ℕ → (ℕ → ℕ) → ℕ → ℕ → List Row
row25 dom wanted m entry = refuse (not (eqb entry (wanted m))) (Inexact dom m (entry_named entry) (entry_named (wanted m)))

-- 2 and 3 first, the map's code being the span's; then the lowest frame first
unfoldable pub compared_rows : ℕ → Span → (ℕ → ℕ) → List ℕ → List Row
compared_rows dom s wanted map = all_rows (read_rows (span_code s) map ∷ each_from (row25 dom wanted) 0 map ∷ [])

-- with what the edges give
abbrev pub exact_rows : List (List ℕ) → ℕ → Span → List Edge → List ℕ → List Row
exact_rows frames dom s edges map = compared_rows dom s (expected frames dom s edges) map
