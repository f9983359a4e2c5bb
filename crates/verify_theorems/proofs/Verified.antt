-- Verification accepts what is read alike: each row's test is false, since each word is read as what is wanted.
use Rattle.std.specs.Prelude.{Some}
use Prim.Native.Nat.{ℕ, ◌<◌}
use mathlib.Core.Bool.{false}
use mathlib.Core.List.{List, [], flat_map}
use mathlib.Core.Path.{◌≡◌, refl, ap, ◌∙◌}
use native.Mathlib.Omega.{arith}
use lib.ListN.{length}
use borrow.Author.Tests.{eq-eqb}
use Rattle.accepted_facts.proofs.Guarded.{guarded_facts}
use Rattle.accepted_facts.specs.Guarded.{Guarded}
use Rattle.areas.specs.Area.{live_areas_of, area_slot}
use Rattle.areas.specs.declared.Area.{Area}
use Rattle.arena.proofs.At.{l1_at, image_at as imageWordAt, data_at as dataWordAt}
use Rattle.arena.specs.Word.{table_to, image_to}
use Rattle.decode.proofs.Emitted.{emitted_decodes}
use Rattle.decode.specs.Decoded.{decoded_table, decoded_device}
use Rattle.desc.specs.Descriptor.{page_address, block_address}
use Rattle.fields.specs.Named.{pick}
use Rattle.layout.specs.Size.{entries, board_limit, arena_length}
use Rattle.layout.specs.Window.{image_window, device_window, l2_slot}
use Rattle.layout.specs.declared.Layout.{Layout}
use Rattle.layout.specs.declared.Window.{Window}
use Rattle.refusal.proofs.All.{all_map}
use Rattle.refusal.proofs.None.{none, accept, both, each_nowhere}
use Rattle.refusal.specs.Table.{each}
use Rattle.rows.specs.Rows.{row1, map_rows, refusals_at, guard_rows}
use Rattle.target_word.proofs.Place.{in_2, in_3}
use Rattle.verify_rows.proofs.Range.{nowhere}
use Rattle.verify_rows.proofs.Read.{held_page, held_block, no_leaf_row, no_block_row, no_row18, no_row19, no_rows, no_other}
use Rattle.verify_rows.specs.Verifying.{word, live_row, live_at, other_row, other_rows, l1_rows, image_rows, data_rows, base_row, page_rows}
use Rattle.verify_rows.specs.Verifying.{super_row, super_rows, wanted_block, device_row, device_rows, encoding_rows, verify_rows}
use Rattle.verify_rows.specs.Word.{read_block}
use Rattle.verify_theorems.specs.Verified.{Kept, ReadAlike, AlikeVerifies}
use Rattle.verify_theorems.proofs.Areas.{Named, l1_word, l1_live, l1_none}
use Rattle.verify_theorems.proofs.Words.{page_wanted, super_wanted, device_6}

-- a word that names a table is read so
names : (d pa : ℕ) → d ≡ table_to pa → decoded_table d ≡ Some (page_address pa)
names d pa e = ap decoded_table e ∙ emitted_decodes.table (page_address pa) (held_page pa)

module _ (arena base sup : List ℕ) (l : Layout) (g : Guarded board_limit base sup l) (e : ReadAlike arena base sup l) where
  abbrev image : Window
  image = image_window l.guest_image_pa

  word_1 : (j : ℕ) → j < entries → Kept decoded_table (word arena 1 j) (l1_at l j)
  word_1 j h = rw (l1_word l base sup j h) at (e.window_words j h)

  word_2 : (j : ℕ) → j < entries → Kept read_block (word arena 2 j) (imageWordAt l j)
  word_2 j h = rw (in_2 l base sup j h) at (e.image_block j h)

  word_3 : (j : ℕ) → j < entries → Kept decoded_table (word arena 3 j) (dataWordAt l j)
  word_3 j h = rw (in_3 l base sup j h) at (e.data_table j h)

  -- each area has its word
  no_live : each (live_row arena) (live_areas_of l) ≡ []
  unfolding live_row
  no_live = each_nowhere (live_row arena) (live_areas_of l) (all_map _ _ here (live_areas_of l) (l1_live l g.layout))
    where
      here : (a : Area) → ((j : ℕ) → Named l j a) → live_row arena a ≡ []
      here a at =
          let s = area_slot a in
          no_rows a.present _
          (λ p. no_row18 1 s _ a.table ((word_1 s (omega arith)).0 ∙ names _ a.table (at s (rw (p, eq-eqb s s refl)))))

  no_others : (t : ℕ) → ((j : ℕ) → j < entries → live_at l t j ≡ false → word arena t j ≡ 0) → other_rows arena l t ≡ []
  unfolding other_row
  no_others t zero = nowhere (other_row arena l t) entries (λ j h. no_other (word arena t j) (live_at l t j) _ (zero j h))

  no_l1 : l1_rows arena l ≡ []
  unfolding l1_rows flat_map
  no_l1 = rw (no_live, no_others 1 (λ j h x. (word_1 j h).1 (l1_none l g.layout j x)))

  no_image : image_rows arena l ≡ []
  unfolding image_rows flat_map
  no_image =
      let s = l2_slot image.ipa in
      let block = no_rows image.present _
      (λ p.
      let here : imageWordAt l s ≡ image_to image.pa = rw (p, eq-eqb s s refl) in
      no_row19 (word arena 2 s) image.pa
      ((word_2 s (omega arith)).0 ∙ ap read_block here ∙ emitted_decodes.image (block_address image.pa) (held_block image.pa))) in
      rw (block, no_others 2 (λ j h x. (word_2 j h).1 (ap (λ t. pick t (image_to image.pa) 0) x)))

  no_data : data_rows arena l ≡ []
  unfolding data_rows flat_map
  no_data =
      let s = l2_slot l.data_ipa_base in
      let here : dataWordAt l s ≡ table_to l.l3_data_pa = rw (eq-eqb s s refl) in
      let named = no_row18 3 s (word arena 3 s) l.l3_data_pa ((word_3 s (omega arith)).0 ∙ names _ l.l3_data_pa here) in
      rw (named, no_others 3 (λ j h x. (word_3 j h).1 (ap (λ t. pick t (table_to l.l3_data_pa) 0) x)))

  no_page : page_rows arena base l ≡ []
  unfolding base_row
  no_page =
      nowhere (base_row arena base l.data_pa_base) entries
      (λ m h. no_leaf_row 4 m _ m _ _ (e.pages m h ∙ page_wanted base sup l g m h))

  no_super : super_rows arena sup l ≡ []
  unfolding super_row
  no_super =
      nowhere (super_row arena sup l.sup_ipa_base l.sup_pa_base l.sup_wx_exempt) entries
      (λ m h. no_leaf_row 5 _ _ m _ _ (e.supers _ (omega arith) ∙ super_wanted base sup l g m h))

  -- a device of which every word is read as what is wanted
  device_absent :
      (t : ℕ) (w : Window) → ((j : ℕ) → j < entries → decoded_device (word arena t j) ≡ wanted_block w j) → device_rows arena t w ≡ []
  unfolding device_row
  device_absent t w same = nowhere (device_row arena t w) entries (λ j h. no_block_row t j _ _ (same j h))

  no_word : encoding_rows arena base sup l ≡ []
  unfolding encoding_rows flat_map
  no_word =
      let device = device_absent 6 (device_window l) (λ j h. e.devices j h ∙ device_6 base sup l g j h) in
      rw (no_l1, no_image, no_data, no_page, no_super, device)

pub alike_verifies : AlikeVerifies
unfolding guard_rows verify_rows row1 flat_map
alike_verifies arena base sup l guard e =
    let maps = both (map_rows base sup) _ (none _ guard) in
    let valid = both (refusals_at board_limit l) _ maps.1 in
    let long = eq-eqb (length arena) arena_length e.long in
    let words = no_word arena base sup l (guarded_facts board_limit base sup l guard) e in
    accept _ (rw (long, maps.0, valid.0, words))
