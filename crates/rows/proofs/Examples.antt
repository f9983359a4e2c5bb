-- Document 01's examples, and the order of its rows, by computation.
use mathlib.Core.List.{flat_map}
use mathlib.Core.Path.{refl}
use Rattle.layout.specs.Layout.{layout_of}
use Rattle.refusal.specs.Table.{first, each_from, pairs}
use Rattle.rows.specs.Examples.{RowExamples}
use Rattle.rows.specs.Rows.{row1, row2, row3, row4, row5, row6, row7, row8, row9, row10, row13, row14, length_rows, map_rows, pair_rows}
use Rattle.rows.specs.Rows.{window_rows, refusals_at, guard_rows, arena_guard_rows}

pub row_examples : RowExamples
unfolding layout_of first flat_map each_from pairs row1 row2 row3 row4 row5 row6 row7 row8 row9 row10 row13 row14 length_rows map_rows pair_rows
    window_rows refusals_at guard_rows arena_guard_rows
row_examples =
    record {
      S = refl;
      row1 = refl;
      row2 = refl;
      row3 = refl;
      row4 = refl;
      row5 = refl;
      row6 = refl;
      row7 = refl;
      row8 = refl;
      row9 = refl;
      row10 = refl;
      row11 = refl;
      row12 = refl;
      row13 = refl;
      row14 = refl;
      row8_edge = refl;
      frames512 = refl;
      last_output = refl;
      no_frames = refl;
      no_frames_inside = refl;
      table_past_48_bits = refl;
      table_of_no_device = refl;
      equal_with_no_device = refl;
      table_in_data = refl;
      order = record {
        one_two = refl;
        two_three = refl;
        three_four = refl;
        four_five = refl;
        five_six = refl;
        six_seven = refl;
        seven_eight = refl;
        eight_nine = refl;
        nine_ten = refl;
        ten_eleven = refl;
        eleven_twelve = refl;
        pair_by_pair = refl;
        twelve_thirteen = refl;
        thirteen_fourteen = refl;
        base_super = refl;
      };
    }
