-- The examples of the dump, by computing.
use mathlib.Core.List.{flat_map}
use mathlib.Core.Path.{refl}
use Rattle.arena.specs.Encoded.{encoded, stored, word_at, upper_runs, leaf_runs}
use Rattle.dump.specs.Dump.{dump, printed_of, in_order, line_at}
use Rattle.layout.specs.Layout.{layout_of}
use Rattle.printed.specs.Line.{bad_line, decimal, refused_line}
use Rattle.printed.specs.Word.{word_line}
use Rattle.refusal.specs.Table.{first, each_from, pairs}
use Rattle.rows.specs.Rows.{row2, row3, row4, row5, row6, row7, row8, row9, row10, row13, row14, length_rows, map_rows, pair_rows, window_rows}
use Rattle.rows.specs.Rows.{refusals_at, guard_rows}
use Rattle.scene.specs.Scene.{with_field}
use Rattle.scene_line.specs.Line.{line_of, said_after, said, number_of, digit_of}
use Rattle.scene_text.specs.Text.{read_from, lines_of}
use Rattle.dump_theorems.specs.Examples.{DumpS, DumpExamples}

pub dump_s : DumpS
unfolding dump printed_of in_order line_at word_line bad_line decimal refused_line read_from lines_of line_of said_after said number_of
    digit_of with_field layout_of first flat_map each_from pairs row2 row3 row4 row5 row6 row7 row8 row9 row10 row13 row14 length_rows map_rows
    pair_rows window_rows refusals_at guard_rows encoded stored word_at upper_runs leaf_runs
dump_s = refl

pub dump_examples : DumpExamples
unfolding dump printed_of in_order line_at word_line bad_line decimal refused_line read_from lines_of line_of said_after said number_of
    digit_of with_field layout_of first flat_map each_from pairs row2 row3 row4 row5 row6 row7 row8 row9 row10 row13 row14 length_rows map_rows
    pair_rows window_rows refusals_at guard_rows encoded stored word_at upper_runs leaf_runs
dump_examples =
    record {
      empty = refl;
      two_digits = refl;
      last_output = refl;
      later_line = refl;
      bad = refl;
      empty_line = refl;
      last_position = refl;
      position = refl;
      super_position = refl;
      code = refl;
      exemption = refl;
      sixteen_digits = refl;
      seventeen_digits = refl;
      lower_case = refl;
      two_spaces = refl;
    }
