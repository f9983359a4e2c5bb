-- The order inside rows, by computation.
use mathlib.Core.List.{flat_map}
use mathlib.Core.Path.{refl}
use Rattle.layout.specs.Layout.{layout_of}
use Rattle.refusal.specs.Table.{first, each_from, pairs}
use Rattle.rows.specs.Rows.{row1, row2, row3, row4, row5, row6, row7, row8, row9, row10, row13, row14, length_rows, map_rows, pair_rows}
use Rattle.rows.specs.Rows.{window_rows, refusals_at, guard_rows, arena_guard_rows}
use Rattle.rows.specs.WithinRows.{WithinRows}

pub within_rows : WithinRows
unfolding layout_of first flat_map each_from pairs row1 row2 row3 row4 row5 row6 row7 row8 row9 row10 row13 row14 length_rows map_rows pair_rows
    window_rows refusals_at guard_rows arena_guard_rows
within_rows =
    record {
      checks = record { alone = refl; apart = refl; together = refl };
      tables = record { alone = refl; apart = refl; together = refl };
      regions = record { alone = refl; apart = refl; together = refl };
      outputs = record { alone = refl; apart = refl; together = refl };
      image_data = record { alone = refl; apart = refl; together = refl };
      image_super = record { alone = refl; apart = refl; together = refl };
      image_device = record { alone = refl; apart = refl; together = refl };
      data_super = record { alone = refl; apart = refl; together = refl };
      data_device = record { alone = refl; apart = refl; together = refl };
      two_equal_tables = record { alone = refl; apart = refl; together = refl };
      last_tables = refl;
      codes = refl;
      supers = refl;
    }
