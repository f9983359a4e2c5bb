-- The examples, by computing: the runs window by window, and the rows.
use Prim.Native.Nat.{suc, ◌*◌}
use mathlib.Core.List.{List, [], ◌∷◌, flat_map}
use mathlib.Core.Path.{◌≡◌, refl, ap, ◌∙◌}
use native.Mathlib.Omega.{arith}
use lib.ListN.{length, replicate}
use Rattle.annex.proofs.Rows.{too_long, fits}
use Rattle.annex.specs.Annex.{annex_runs, annex_rows}
use Rattle.annex_theorems.proofs.Computed.{piece_runs, window_runs, slot_runs, all_runs, computed_runs}
use Rattle.annex_theorems.proofs.LongestPage.{page_length}
use Rattle.annex_theorems.specs.Examples.{page_of_s, data_before_super, last_page, image_before_super, no_device, full, alternating}
use Rattle.annex_theorems.specs.Examples.{AnnexExamples}
use Rattle.layout.specs.Layout.{layout_of}
use Rattle.refusal.specs.Table.{first, each_from, pairs}
use Rattle.rows.specs.Examples.{scene_s, base_s, sup_s, line}
use Rattle.rows.specs.Rows.{row2, row3, row4, row5, row6, row7, row8, row9, row10, row13, row14, length_rows, map_rows, pair_rows, window_rows}
use Rattle.rows.specs.Rows.{refusals_at, guard_rows}
use Rattle.runs.specs.Page.{line_length, run_line, last_line, page_of}
use Rattle.runs.specs.Runs.{before}
use Rattle.runs.specs.declared.Run.{Run}

pub annex_examples : AnnexExamples
unfolding layout_of first flat_map each_from pairs row2 row3 row4 row5 row6 row7 row8 row9 row10 row13 row14 length_rows map_rows
    pair_rows window_rows refusals_at guard_rows annex_rows before piece_runs window_runs slot_runs all_runs run_line last_line page_of
annex_examples =
    let runs-of-S = computed_runs (layout_of scene_s) base_s sup_s refl in
    let runs-of-full = computed_runs (layout_of full) (alternating 256) (alternating 256) refl in
    let long : length page_of_s ≡ 160 = ap (λ (rs : List Run). length (page_of rs)) runs-of-S in
    record {
      S = runs-of-S;
      s_page = ap page_of runs-of-S;
      data_super = computed_runs (layout_of data_before_super) last_page (2 ∷ []) refl;
      output_breaks = computed_runs (layout_of (line 0xC 0x6000_0000 data_before_super)) last_page (2 ∷ []) refl;
      execute_breaks = computed_runs (layout_of (line 0xF 1 data_before_super)) last_page (2 ∷ []) refl;
      image_super = computed_runs (layout_of image_before_super) [] (3 ∷ []) refl;
      nothing = computed_runs (layout_of no_device) [] [] refl;
      last_line = ap (λ (rs : List Run). length (page_of rs)) (computed_runs (layout_of no_device) [] [] refl);
      longest =
          page_length (annex_runs (layout_of full) (alternating 256) (alternating 256))
          ∙ ap (λ (rs : List Run). suc (length rs) * line_length) runs-of-full;
      longest_bytes = refl;
      too_short = too_long (layout_of scene_s) base_s sup_s (replicate 159 0) refl (omega (arith, long));
      enough = fits (layout_of scene_s) base_s sup_s (replicate 160 0) refl (omega (arith, long));
      order = refl;
    }
