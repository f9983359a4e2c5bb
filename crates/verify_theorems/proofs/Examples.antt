-- Document 01's examples of rows 18 to 22, and verification's order, from the rows that the wrong words draw.
use Prim.Native.Nat.{ℕ, ◌+◌}
use mathlib.Core.Bool.{Bool, true, not, ◌&&◌}
use mathlib.Core.List.{List, [], ◌∷◌, map, flat_map}
use mathlib.Core.Path.{◌≡◌, refl, sym}
use lib.Dec.{eqb}
use lib.Seq.{set_comm}
use borrow.Author.Tests.{eqb-false, not-true}
use Rattle.layout.specs.Layout.{layout_of}
use Rattle.layout.specs.Size.{first_word}
use Rattle.refusal.specs.Table.{row, Outcome, first, each_from, pairs}
use Rattle.rows.specs.Examples.{scene_s, base_s, sup_s}
use Rattle.rows.specs.Faults.{neighbours}
use Rattle.rows.specs.Rows.{row1, row2, row3, row4, row5, row6, row7, row8, row9, row10, row13, row14, length_rows, map_rows, pair_rows}
use Rattle.rows.specs.Rows.{window_rows, refusals_at, guard_rows}
use Rattle.verify_theorems.proofs.Changed.{sorted, drawn, first_drawn}
use Rattle.verify_theorems.proofs.LetsBy.{encoded_verifies}
use Rattle.verify_theorems.proofs.Told.{halves}
use Rattle.verify_theorems.specs.Examples.{VerifyExamples, Wrong, wrong, unnamed, spare, leafless, fault_of, wrongs, image_high_s}
use Rattle.verify_theorems.specs.Examples.{apart_s}
use Rattle.verify_theorems.specs.Examples.{verdict, ToldInOrder, Sound, SoundScenes, BeforeWords, SlotsS}
use Rattle.verify_theorems.specs.Verified.{Guarding, Verifies}
use Rattle.verify_rows.specs.Verifying.{live_row, l1_rows, encoding_rows, verify_rows}
use Rattle.verify_rows.specs.Word.{row18, row19, leaf_row, block_row}

module _ (scene arena : List ℕ) (v : Verifies arena base_s sup_s (layout_of scene)) where
  abbrev told : List Wrong → Outcome
  told ws = first (drawn ws base_s sup_s (layout_of scene))

  alone_told :
      (w : Wrong) → sorted (layout_of scene) (w ∷ []) ≡ true → verdict scene ((fault_of w).change arena) ≡ told (w ∷ [])
  alone_told w good = first_drawn arena base_s sup_s (layout_of scene) (w ∷ []) v good

  abbrev each_sorted : List Wrong → Bool
  each_sorted [] = true
  each_sorted (w ∷ ws) = sorted (layout_of scene) (w ∷ []) && each_sorted ws

  each_told :
      (ws : List Wrong) → each_sorted ws ≡ true →
      map (λ f. verdict scene (f.change arena)) (map fault_of ws) ≡ map (λ w. told (w ∷ [])) ws
  each_told [] good = refl
  each_told (w ∷ ws) good =
      let parts = halves (sorted (layout_of scene) (w ∷ [])) _ good in rw (alone_told w parts.0, each_told ws parts.1)

  abbrev two_sorted : List Wrong → Bool
  two_sorted [] = true
  two_sorted (w ∷ []) = true
  two_sorted (w ∷ x ∷ ws) = sorted (layout_of scene) (w ∷ x ∷ []) && two_sorted (x ∷ ws)

  two_told :
      (ws : List Wrong) → two_sorted ws ≡ true →
      neighbours (λ f g. verdict scene (f.change (g.change arena))) (map fault_of ws)
      ≡ neighbours (λ w x. told (w ∷ x ∷ [])) ws
  two_told [] good = refl
  two_told (w ∷ []) good = refl
  two_told (w ∷ x ∷ ws) good =
      let parts = halves (sorted (layout_of scene) (w ∷ x ∷ [])) _ good in
      rw (first_drawn arena base_s sup_s (layout_of scene) (w ∷ x ∷ []) v parts.0, two_told (x ∷ ws) parts.1)

abbrev place_of : Wrong → ℕ
place_of w = first_word w.table + w.index

abbrev two_places : List Wrong → Bool
two_places [] = true
two_places (w ∷ []) = true
two_places (w ∷ x ∷ ws) = not (eqb (place_of w) (place_of x)) && two_places (x ∷ ws)

two_apart :
    (arena : List ℕ) (ws : List Wrong) → two_places ws ≡ true →
    neighbours (λ f g. f.change (g.change arena)) (map fault_of ws)
    ≡ neighbours (λ f g. g.change (f.change arena)) (map fault_of ws)
two_apart arena [] good = refl
two_apart arena (w ∷ []) good = refl
two_apart arena (w ∷ x ∷ ws) good =
    let parts = halves (not (eqb (place_of w) (place_of x))) _ good in
    let other = eqb-false (place_of w) (place_of x) (not-true _ parts.0) in
    rw (set_comm arena (place_of x) (place_of w) x.word w.word (λ e. other (sym e)), two_apart arena (x ∷ ws) parts.1)

pub verify_examples : VerifyExamples
unfolding layout_of first flat_map row18 row19 leaf_row block_row
verify_examples arena withImage v w =
    record {
      row18 = alone_told scene_s arena v (unnamed 1 2 0x4000_2000) refl;
      row19 = alone_told image_high_s withImage w (wrong 2 0 0 (row 19 [])) refl;
      row20 = alone_told scene_s arena v (leafless 4 1 1 0x5000_1000 2) refl;
      row21 = alone_told scene_s arena v (spare 3 7 1) refl;
      row22 = alone_told scene_s arena v (wrong 6 72 0 (row 22 [])) refl;
      other_table = alone_told scene_s arena v (wrong 1 2 0x4000_4003 (row 18 [])) refl;
      other_block = alone_told image_high_s withImage w (wrong 2 0 0x0040_0001_4000_077D (row 19 [])) refl;
      other_page = alone_told scene_s arena v (wrong 4 1 0x0040_0000_5000_277F (row 20 [])) refl;
    }

pub told_in_order : ToldInOrder
unfolding layout_of first flat_map row18 row19 leaf_row block_row
told_in_order arena v =
    record {
      alone = each_told apart_s arena v wrongs refl;
      apart = two_apart arena wrongs refl;
      together = two_told apart_s arena v wrongs refl;
    }

sound : (scene : List ℕ) → Guarding base_s sup_s (layout_of scene) → Sound scene
sound scene g =
    record { let_by = g; verifies = λ arena e. encoded_verifies arena base_s sup_s (layout_of scene) g e }

pub sound_scenes : SoundScenes
unfolding layout_of first flat_map each_from pairs row2 row3 row4 row5 row6 row7 row8 row9 row10 row13 row14 length_rows map_rows pair_rows
    window_rows refusals_at guard_rows
sound_scenes = record { S = sound scene_s refl; with_image = sound image_high_s refl; apart = sound apart_s refl }

pub before_words : BeforeWords
unfolding layout_of first flat_map each_from pairs row1 row2 row3 row4 row5 row6 row7 row8 row9 row10 length_rows map_rows pair_rows window_rows
    refusals_at live_row l1_rows encoding_rows verify_rows row18
before_words = record { zeros = refl; layout = refl; maps = refl; arena = refl }

pub slots_s : SlotsS
unfolding layout_of
slots_s = record { three = refl; two = refl; slot_0 = refl }
