-- What verification accepts is read alike: no row applies, so each word is read as what is wanted, which is what encoding leaves there.
use Prim.Native.Nat.{ℕ, ◌+◌, ◌-◌, ◌*◌, ◌%◌, ◌<◌}
use mathlib.Core.Bool.{Bool, true, false, ◌&&◌}
use mathlib.Core.List.{List, [], ◌++◌, flat_map}
use mathlib.Core.Path.{◌≡◌, refl, sym, ap, ◌∙◌}
use native.Mathlib.Omega.{arith}
use lib.Dec.{eqb}
use borrow.Author.Tests.{eqb-true, not-false}
use Rattle.accepted_facts.proofs.Guarded.{guarded_facts}
use Rattle.accepted_facts.specs.Guarded.{Guarded}
use Rattle.areas.specs.Area.{live_areas_of, area_slot, area_has}
use Rattle.areas.specs.declared.Area.{Area}
use Rattle.arena.proofs.At.{l1_at, image_at as imageWordAt, data_at as dataWordAt}
use Rattle.arena.specs.Word.{table_to, image_to}
use Rattle.decode.proofs.Emitted.{emitted_decodes}
use Rattle.decode.specs.Decoded.{decoded_table, decoded_device}
use Rattle.desc.specs.Descriptor.{page_address, block_address}
use Rattle.fields.specs.Named.{pick}
use Rattle.layout.specs.Size.{entries, block, board_limit}
use Rattle.layout.specs.Window.{image_window, device_window, l2_slot}
use Rattle.layout.specs.declared.Layout.{Layout}
use Rattle.layout.specs.declared.Window.{Window}
use Rattle.refusal.proofs.All.{all_both}
use Rattle.refusal.proofs.None.{none, both, test, under, each_none}
use Rattle.refusal.specs.Table.{given, each}
use Rattle.rows.specs.Rows.{row1, map_rows, refusals}
use Rattle.target_word.proofs.Place.{in_2, in_3}
use Rattle.verify_rows.proofs.Range.{everywhere}
use Rattle.verify_rows.proofs.Read.{held_page, held_block}
use Rattle.verify_rows.specs.Verifying.{word, live_row, window_at, live_at, other_row, other_rows, l1_rows, image_rows, data_rows, base_row}
use Rattle.verify_rows.specs.Verifying.{page_rows, super_row, super_rows, wanted_block, device_row, device_rows, encoding_rows, verify_rows}
use Rattle.verify_rows.specs.Word.{read_page, read_block, row18, row19}
use Rattle.verify_theorems.specs.Verified.{encoded_word, Kept, VerifiedAlike}
use Rattle.verify_theorems.proofs.Areas.{somebody, Named, l1_word, l1_live, l1_none}
use Rattle.verify_theorems.proofs.Told.{halves, leaf_row_told, block_row_told, row18_told, row19_told, other_told}
use Rattle.verify_theorems.proofs.Words.{page_wanted, super_wanted, device_6}

-- a word that is wanted, and one that is not
some : {A : Type 0} (read : ℕ → A) (d w : ℕ) → read d ≡ read w → (w ≡ 0 → ⊥) → Kept read d w
some read d w e ne = (e, λ z. absurd (ne z))

nothing : {A : Type 0} (read : ℕ → A) (d w : ℕ) → d ≡ 0 → w ≡ 0 → Kept read d w
nothing read d w e z = (ap read (e ∙ sym z), λ _. e)

module _ (arena base sup : List ℕ) (l : Layout) (g : Guarded board_limit base sup l) where
  abbrev image : Window
  image = image_window l.guest_image_pa

  others : (t : ℕ) → other_rows arena l t ≡ [] → (j : ℕ) → j < entries → live_at l t j ≡ false → word arena t j ≡ 0
  unfolding other_row
  others t e j h = other_told (word arena t j) (live_at l t j) _ (everywhere (other_row arena l t) entries e j h)

  -- a word of an area, at its slot
  of_area :
      (a : Area) (j : ℕ) → live_row arena a ≡ [] → Named l j a → area_has a j ≡ true → Kept decoded_table (word arena 1 j) (l1_at l j)
  unfolding live_row
  of_area a j clean names has =
      let p = halves a.present _ has in
      let s = area_slot a in
      let here = row18_told 1 s (word arena 1 s) a.table (under a.present _ p.0 clean) in
      let at = names has in
      let wanted = ap decoded_table at ∙ emitted_decodes.table (page_address a.table) (held_page a.table) in
      let found = rw (eqb-true s j p.1) at here in
      some decoded_table (word arena 1 j) (l1_at l j) (found ∙ sym wanted) (λ z. let n = sym at ∙ z in omega (arith, n))

  -- no row of an area, and its word
  abbrev Told : Area → Type 0
  Told a = (live_row arena a ≡ []) × ((i : ℕ) → Named l i a)

  windows : l1_rows arena l ≡ [] → (j : ℕ) → j < entries → Kept decoded_table (word arena 1 j) (l1_at l j)
  unfolding l1_rows flat_map
  windows e j h = go (window_at (live_areas_of l) j) refl (both (each (live_row arena) (live_areas_of l)) _ e)
    where
      go :
          (b : Bool) → window_at (live_areas_of l) j ≡ b →
          (each (live_row arena) (live_areas_of l) ≡ []) × (other_rows arena l 1 ++ [] ≡ []) → Kept decoded_table (word arena 1 j) (l1_at l j)
      go true q parts =
          let clean = each_none (live_row arena) (live_areas_of l) parts.0 in
          somebody Told j (λ a f. of_area a j f.0 (f.1 j)) (live_areas_of l) q
          (all_both (λ a. live_row arena a ≡ []) (λ a. (i : ℕ) → Named l i a) (live_areas_of l) clean (l1_live l g.layout))
      go false q parts =
          nothing decoded_table _ _ (others 1 (both (other_rows arena l 1) [] parts.1).0 j h q) (l1_none l g.layout j q)

  -- a table with one word w, at slot s, where there is one
  only_word :
      {A : Type 0} (read : ℕ → A) (t s w : ℕ) (there : Bool) →
      (there ≡ true → read (word arena t s) ≡ read w) →
      (w ≡ 0 → ⊥) →
      other_rows arena l t ≡ [] →
      (j : ℕ) → j < entries → live_at l t j ≡ (there && eqb s j) → Kept read (word arena t j) (pick (there && eqb s j) w 0)
  only_word read t s w there told named clean j h live = go (there && eqb s j) refl
    where
      go : (b : Bool) → (there && eqb s j) ≡ b → Kept read (word arena t j) (pick b w 0)
      go true q =
          let p = halves there _ q in
          let at = eqb-true s j p.1 in
          some read (word arena t j) w (sym (ap (λ (n : ℕ). read (word arena t n)) at) ∙ told p.0) named
      go false q = nothing read _ _ (others t clean j h (live ∙ q)) refl

  image_words : image_rows arena l ≡ [] → (j : ℕ) → j < entries → Kept read_block (word arena 2 j) (imageWordAt l j)
  unfolding image_rows flat_map
  image_words e j h =
      let s = l2_slot image.ipa in
      let parts = both (given image.present (row19 (word arena 2 s) image.pa)) _ e in
      let wanted = emitted_decodes.image (block_address image.pa) (held_block image.pa) in
      only_word read_block 2 s (image_to image.pa) image.present
      (λ p. row19_told (word arena 2 s) image.pa (under image.present _ p parts.0) ∙ sym wanted)
      (λ z. omega (arith, z)) (both (other_rows arena l 2) [] parts.1).0 j h refl

  data_words : data_rows arena l ≡ [] → (j : ℕ) → j < entries → Kept decoded_table (word arena 3 j) (dataWordAt l j)
  unfolding data_rows flat_map
  data_words e j h =
      let s = l2_slot l.data_ipa_base in
      let pa = l.l3_data_pa in
      let parts = both (row18 3 s (word arena 3 s) pa) _ e in
      let wanted = emitted_decodes.table (page_address pa) (held_page pa) in
      only_word decoded_table 3 s (table_to pa) true (λ p. row18_told 3 s (word arena 3 s) pa parts.0 ∙ sym wanted)
      (λ z. omega (arith, z)) (both (other_rows arena l 3) [] parts.1).0 j h refl

  page_words : page_rows arena base l ≡ [] → (j : ℕ) → j < entries → read_page (word arena 4 j) ≡ read_page (encoded_word l base sup 4 j)
  unfolding base_row
  page_words e j h =
      leaf_row_told 4 j _ j _ _ (everywhere (base_row arena base l.data_pa_base) entries e j h)
      ∙ sym (page_wanted base sup l g j h)

  -- each slot is that of one frame
  super_words : super_rows arena sup l ≡ [] → (j : ℕ) → j < entries → read_block (word arena 5 j) ≡ read_block (encoded_word l base sup 5 j)
  unfolding super_row
  super_words e j h =
      let m = (j + entries - l2_slot l.sup_ipa_base) % entries in
      let below : m < entries = omega arith in
      let place : l2_slot (l.sup_ipa_base + m * block) ≡ j = omega (arith, h) in
      let found =
      leaf_row_told 5 _ _ m _ _
      (everywhere (super_row arena sup l.sup_ipa_base l.sup_pa_base l.sup_wx_exempt) entries e m below)
      ∙ sym (super_wanted base sup l g m below) in rw place at found

  device_words : (t : ℕ) (w : Window) → device_rows arena t w ≡ [] → (j : ℕ) → j < entries → decoded_device (word arena t j) ≡ wanted_block w j
  unfolding device_row
  device_words t w e j h = block_row_told t j _ _ (everywhere (device_row arena t w) entries e j h)

pub verified_alike : VerifiedAlike
unfolding verify_rows encoding_rows row1 flat_map
verified_alike arena base sup l guard v =
    let g = guarded_facts board_limit base sup l guard in
    let long = both (row1 arena) _ (none _ v) in
    let maps = both (map_rows base sup) _ long.1 in
    let valid = both (refusals l) _ maps.1 in
    let words = (both (encoding_rows arena base sup l) [] valid.1).0 in
    let level1 = both (l1_rows arena l) _ words in
    let code = both (image_rows arena l) _ level1.1 in
    let pages = both (data_rows arena l) _ code.1 in
    let bases = both (page_rows arena base l) _ pages.1 in
    let supers = both (super_rows arena sup l) _ bases.1 in
    let device = (both (device_rows arena 6 (device_window l)) [] supers.1).0 in
    record {
      long = eqb-true _ _ (not-false _ (test _ _ _ long.0));
      window_words = λ j h. rw (l1_word l base sup j h) (windows arena base sup l g level1.0 j h);
      image_block = λ j h. rw (in_2 l base sup j h) (image_words arena base sup l g code.0 j h);
      data_table = λ j h. rw (in_3 l base sup j h) (data_words arena base sup l g pages.0 j h);
      pages = page_words arena base sup l g bases.0;
      supers = super_words arena base sup l g supers.0;
      devices = λ j h. device_words arena base sup l g 6 (device_window l) device j h ∙ sym (device_6 base sup l g j h);
    }
