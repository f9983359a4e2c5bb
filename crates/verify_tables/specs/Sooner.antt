-- Passing over words: what may be left out of row 21's loop.
use Rattle.std.specs.Prelude.{ℕ, ◌-◌, ◌≤◌, List, ◌≡◌}
use Rattle.layout.specs.Size.{entries}
use Rattle.layout.specs.declared.Layout.{Layout}
use Rattle.refusal.specs.Table.{Row, each}
use Rattle.verify_rows.specs.Verifying.{range, other_row}

-- the other words of a table from index j on
abbrev pub other_rows_from : List ℕ → Layout → ℕ → ℕ → List Row
other_rows_from arena l t j = each (other_row arena l t) (range j (entries - j))

-- to go on at r in place of j is only sooner: whatever the layout, the rows are the same, so that nothing but time depends on it
abbrev pub OnlySooner : List ℕ → ℕ → ℕ → ℕ → Type 0
OnlySooner arena t j r = (j ≤ r) × (r ≤ entries) × ((l : Layout) → other_rows_from arena l t j ≡ other_rows_from arena l t r)
