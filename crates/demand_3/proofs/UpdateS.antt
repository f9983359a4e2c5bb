-- S's maps are filled by computing; the rest are cases of the theorems.
use Rattle.std.specs.Prelude.{None}
use Prim.Native.Nat.{ℕ}
use mathlib.Core.Bool.{true}
use mathlib.Core.List.{List, [], ◌∷◌, flat_map}
use mathlib.Core.Path.{◌≡◌, refl, sym, ◌∙◌}
use native.Mathlib.Omega.{arith}
use lib.ListN.{length, replicate}
use Rattle.accepted_facts.proofs.Guarded.{maps_let_by}
use Rattle.conflict.specs.Conflict.{row17}
use Rattle.demand_2.specs.Demand2.{addresses_of}
use Rattle.demand_2.specs.Tabled.{S, reach}
use Rattle.demand_3.specs.Completing.{full_update, AcceptedSource, Completes}
use Rattle.demand_3.specs.UpdateS.{source_s, walk_after, AnswersS, UpdateS}
use Rattle.demand_3.specs.Sources.{maps_of, granted_from, FilledFrom}
use Rattle.demand_3.proofs.Completing.{updates_complete}
use Rattle.demand_3.proofs.Demand3.{demand_3}
use Rattle.demand_3.proofs.Granting.{base_entries, sup_entries, same_granted}
use Rattle.edge.specs.Edge.{owns, counts}
use Rattle.filling.specs.Filling.{filling, put_in, placed, onward, placed_all, conflicts, started, filled}
use Rattle.layout.specs.Layout.{layout_of}
use Rattle.layout.specs.Size.{board_limit, arena_length}
use Rattle.perm.specs.declared.Perm.TheVariants.{Rw}
use Rattle.refusal.specs.Table.{accepted, first, each_from, pairs}
use Rattle.rows.proofs.Examples as Rows
use Rattle.rows.specs.Examples.{base_s, sup_s}
use Rattle.rows.specs.Rows.{row1, row2, row3, row4, row5, row6, row7, row8, row9, row10, row13, row14, length_rows, map_rows, pair_rows}
use Rattle.rows.specs.Rows.{window_rows, refusals_at, guard_rows, arena_guard_rows}
use Rattle.update.specs.Step.{halfway, row26, step_rows}
use Rattle.window_reach.specs.Granted.{granted_by}

fills : filled source_s.frames 3 source_s.edges (9 ∷ 9 ∷ []) (9 ∷ 9 ∷ 9 ∷ []) ≡ filling base_s sup_s accepted
unfolding filled started onward placed_all placed counts owns put_in conflicts row17 first each_from length_rows row2 flat_map
fills = refl

answers : AnswersS
unfolding layout_of first flat_map each_from pairs row1 row2 row3 row4 row5 row6 row7 row8 row9 row10 row13 row14 length_rows map_rows pair_rows
    window_rows refusals_at guard_rows arena_guard_rows row26 step_rows
answers = record { past_last = refl; last_step = refl; fourteen_first = refl }

from_s : FilledFrom source_s base_s sup_s
from_s = record { lent_base = 9 ∷ 9 ∷ []; lent_sup = 9 ∷ 9 ∷ 9 ∷ []; fills = fills }

accepted_s : AcceptedSource (addresses_of S) source_s base_s sup_s
accepted_s =
    record {
      maps = from_s;
      lets_by = maps_let_by board_limit (replicate arena_length 0) base_s sup_s S (Rows.row_examples).S;
      same_tables = refl;
    }

granted_s_lem : granted_from source_s 0x8000_1234 ≡ reach 0x5000_1234 Rw true
unfolding layout_of granted_by
granted_s_lem =
    sym
    (same_granted S base_s (maps_of source_s).base sup_s (maps_of source_s).sup (base_entries source_s base_s sup_s from_s)
    (sup_entries source_s base_s sup_s from_s) 0x8000_1234)
    ∙ refl

module _ (words : List ℕ) (long : length words ≡ arena_length) where
  completes : Completes (addresses_of S) words [] source_s base_s sup_s
  completes = updates_complete (addresses_of S) words [] long tt source_s base_s sup_s accepted_s

  half_way : walk_after words halfway 0x8000_1234 ≡ None
  half_way =
      (demand_3.walk (addresses_of S) words (full_update source_s base_s sup_s) completes.premises words source_s (λ r. halfway) (λ r. halfway)
      (λ r b. completes.cuts halfway (omega arith)) 0x8000_1234).at_half_way (λ r b. refl)

pub update_s : UpdateS
update_s =
    record {
      answers = answers;
      fills = fills;
      completes = completes;
      half_way = half_way;
      last = λ words long. (completes words long).walk 0x8000_1234 ∙ granted_s_lem;
    }
