-- The longest annex page, by request M-100: a buffer of so many bytes is enough for every layout and all maps.
use Rattle.std.specs.Prelude.{ℕ, ◌+◌, ◌*◌, ◌≤◌, List, ◌≡◌, length}
use Rattle.annex.specs.Annex.{annex_page}
use Rattle.layout.specs.Size.{entries, board_limit}
use Rattle.layout.specs.declared.Layout.{Layout}
use Rattle.refusal.specs.Table.{accepted, first}
use Rattle.rows.specs.Rows.{guard_rows}
use Rattle.runs.specs.Page.{line_length}

-- image, data page, super and device are of one access and continuous output: none begins more than one line
abbrev pub image_lines : ℕ
image_lines = 1

abbrev pub data_lines : ℕ
data_lines = entries

abbrev pub super_lines : ℕ
super_lines = entries

-- one for each device of the layout
abbrev pub device_lines : ℕ
device_lines = 1

-- and the last line
abbrev pub longest_page : ℕ
longest_page = (image_lines + data_lines + super_lines + device_lines + 1) * line_length

abbrev pub LongestPage : Type 0
LongestPage =
    (l : Layout) (base sup : List ℕ) →
    first (guard_rows board_limit base sup l) ≡ accepted → length (annex_page l base sup) ≤ longest_page
