-- What the windows grant an address, as nine numbers: behind rows 2 to 14.
use Rattle.std.specs.Prelude.{ℕ, List}
use Rattle.layout.specs.Layout.{layout_of}
use Rattle.layout.specs.Size.{board_limit}
use Rattle.reach.specs.Reach.{reach_values}
use Rattle.refusal.specs.Table.{first}
use Rattle.refusal.specs.Told.{values_if, after, told_words}
use Rattle.rows.specs.Rows.{guard_rows}
use Rattle.window_reach.specs.Granted.{granted}

abbrev pub granted_answer : List ℕ → List ℕ → List ℕ → ℕ → List ℕ
granted_answer numbers base sup x =
    let l = layout_of numbers in
    told_words (values_if reach_values) (after (first (guard_rows board_limit base sup l)) (granted l base sup x))
