-- Document 01's examples, by computation.
use mathlib.Core.List.{flat_map}
use mathlib.Core.Path.{refl}
use Rattle.authority.specs.Authority.{has_grant, owner_rows, reach_rows, authority_rows}
use Rattle.conflict.specs.Conflict.{row17}
use Rattle.edge.specs.Edge.{owns, counts}
use Rattle.exact.specs.Exact.{row25, compared_rows}
use Rattle.expected.specs.Expected.{lands, after_edge, after_edges}
use Rattle.filling.specs.Filling.{put_in, placed, onward, placed_all, conflicts, started, filled}
use Rattle.grant.specs.Grant.{covers}
use Rattle.leafmap_theorems.specs.Examples.{LeafExamples}
use Rattle.refusal.specs.Table.{first, each_from}
use Rattle.rows.specs.Rows.{row2, row3, length_rows, read_rows}

pub leaf_examples : LeafExamples
unfolding first flat_map each_from row2 row3 length_rows read_rows owns counts covers put_in placed onward placed_all row17 conflicts started
    filled has_grant owner_rows reach_rows authority_rows lands after_edge after_edges row25 compared_rows
leaf_examples =
    record {
      four_edges = refl;
      row2 = refl;
      no_row3 = refl;
      row15 = refl;
      row16 = refl;
      row17 = refl;
      smallest_first = refl;
      skipped = refl;
      later = refl;
      row23 = refl;
      row23_foreign = refl;
      row24 = refl;
      authorized = refl;
      row25 = refl;
      last_edge = refl;
      row3_code = refl;
      hidden_conflict = refl;
      refused_yet_exact = refl;
      rx_by_reading = refl;
    }
