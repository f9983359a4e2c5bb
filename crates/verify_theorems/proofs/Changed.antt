-- A verified arena with a few other words draws the rows that these words draw, in verification's order.
use Prim.Native.Nat.{ℕ, zero, suc, ◌+◌, ◌-◌, ◌*◌, ◌%◌, ◌≤◌, ◌<◌}
use mathlib.Core.Bool.{Bool, true, false, not, ◌&&◌, ◌||◌}
use mathlib.Core.List.{List, [], ◌∷◌, ◌++◌, flat_map, append-nil}
use mathlib.Core.Path.{◌≡◌, refl, sym, ap, ◌∙◌}
use native.Mathlib.Omega.{arith}
use lib.Dec.{eqb, leb, ltb}
use lib.ListN.{length, get_or, length-set}
use borrow.Author.Tests.{eq-eqb, eqb-true, eqb-false, leb-true, ltb-true, not-false}
use Rattle.areas.specs.Area.{live_areas_of, area_slot}
use Rattle.areas.specs.declared.Area.{Area}
use Rattle.desc.specs.Descriptor.{page_address, block_address}
use Rattle.fields.specs.Named.{pick}
use Rattle.layout.specs.Size.{entries, page, block, table_count, arena_length}
use Rattle.layout.specs.Window.{image_window, device_window, l2_slot}
use Rattle.layout.specs.declared.Layout.{Layout}
use Rattle.layout.specs.declared.Window.{Window}
use Rattle.refusal.proofs.None.{none, both, test}
use Rattle.refusal.specs.Table.{Row, first, given, each, all_rows}
use Rattle.rows.specs.Rows.{row1, map_rows, refusals}
use Rattle.verify_rows.proofs.Range.{everywhere}
use Rattle.verify_rows.specs.Verifying.{word, range, indices, live_row, live_at, other_row, other_rows, l1_rows, image_rows, data_rows, base_row}
use Rattle.verify_rows.specs.Verifying.{page_rows, super_row, super_rows, wanted_block, device_row, device_rows, encoding_rows, verify_rows}
use Rattle.verify_rows.specs.Word.{read_page, read_block, row18, row19, spurious, wanted_leaf, leaf_row, block_row}
use Rattle.verify_theorems.specs.Examples.{Wrong}
use Rattle.verify_theorems.specs.Verified.{Verifies, stored_at}
use Rattle.verify_theorems.proofs.Sparse.{member, rising, sparse}
use Rattle.verify_theorems.proofs.Stored.{stored_word}
use Rattle.verify_theorems.proofs.Told.{halves, neither}

-- the other words

abbrev pub put : List Wrong → List ℕ → List ℕ
put [] arena = arena
put (w ∷ ws) arena = stored_at w.table w.index w.word (put ws arena)

abbrev in_words : Wrong → Bool
in_words w = leb 1 w.table && (leb w.table table_count && ltb w.index entries)

abbrev inside : List Wrong → Bool
inside [] = true
inside (w ∷ ws) = in_words w && inside ws

put_long : (ws : List Wrong) (arena : List ℕ) → length (put ws arena) ≡ length arena
put_long [] arena = refl
put_long (w ∷ ws) arena = length-set (put ws arena) _ _ ∙ put_long ws arena

abbrev at : Wrong → ℕ → ℕ → Bool
at w t j = eqb w.table t && eqb w.index j

-- the rows of the other word at a place, if there is one
abbrev found : List Wrong → ℕ → ℕ → (ℕ → List Row) → List Row
found [] t j rows = []
found (w ∷ ws) t j rows = pick (at w t j) (rows w.word) (found ws t j rows)

one :
    (arena : List ℕ) (w : Wrong) (t j : ℕ) → length arena ≡ arena_length → in_words w ≡ true → 1 ≤ t → j < entries →
    word (stored_at w.table w.index w.word arena) t j ≡ pick (at w t j) w.word (word arena t j)
one arena w t j long ok lo h =
    let lowest = halves (leb 1 w.table) _ ok in
    let highest = halves (leb w.table table_count) _ lowest.1 in
    stored_word arena w.table w.index w.word long (leb-true 1 w.table lowest.0)
    (leb-true w.table table_count highest.0) (ltb-true w.index entries highest.1) t j lo h

-- the verified words draw nothing, so that only the others' rows are left
seen :
    (arena : List ℕ) (ws : List Wrong) (t j : ℕ) (rows : ℕ → List Row) →
    length arena ≡ arena_length → inside ws ≡ true → 1 ≤ t → j < entries → rows (word arena t j) ≡ [] →
    rows (word (put ws arena) t j) ≡ found ws t j rows
seen arena [] t j rows long ok lo h e = e
seen arena (w ∷ ws) t j rows long ok lo h e =
    let parts = halves (in_words w) _ ok in
    ap rows (one (put ws arena) w t j (put_long ws arena ∙ long) parts.0 lo h)
    ∙ picked (at w t j) rows w.word (word (put ws arena) t j) (seen arena ws t j rows long parts.1 lo h e)
  where
    picked :
        (b : Bool) (rows : ℕ → List Row) (d v : ℕ) {rs : List Row} → rows v ≡ rs → rows (pick b d v) ≡ pick b (rows d) rs
    picked true rows d v e = refl
    picked false rows d v e = e

-- the numbers of the others in a table, by a key of their index, rising

abbrev insert : ℕ → List ℕ → List ℕ
insert x [] = x ∷ []
insert x (y ∷ ys) = pick (ltb x y) (x ∷ y ∷ ys) (y ∷ insert x ys)

abbrev numbers : (ℕ → ℕ) → ℕ → List Wrong → List ℕ
numbers key t [] = []
numbers key t (w ∷ ws) =
    pick (eqb w.table t) (insert (key w.index) (numbers key t ws)) (numbers key t ws)

swap : (a b c : Bool) → (a || (b || c)) ≡ (b || (a || c))
swap true true c = refl
swap true false c = refl
swap false true c = refl
swap false false c = refl

member_insert : (m x : ℕ) (ys : List ℕ) → member m (insert x ys) ≡ (eqb m x || member m ys)
member_insert m x [] = refl
member_insert m x (y ∷ ys) = go (ltb x y) (member_insert m x ys)
  where
    go :
        (b : Bool) → member m (insert x ys) ≡ (eqb m x || member m ys) →
        member m (pick b (x ∷ y ∷ ys) (y ∷ insert x ys)) ≡ (eqb m x || (eqb m y || member m ys))
    go true e = refl
    go false e = ap (λ b. eqb m y || b) e ∙ swap (eqb m y) (eqb m x) (member m ys)

-- a number that is not among them has no rows
gaps :
    (ws : List Wrong) (key : ℕ → ℕ) (t m j : ℕ) (rows : ℕ → List Row) →
    key j ≡ m → member m (numbers key t ws) ≡ false → found ws t j rows ≡ []
gaps [] key t m j rows back miss = refl
gaps (w ∷ ws) key t m j rows back miss =
    go (eqb w.table t) (eqb w.index j) refl (gaps ws key t m j rows back) miss
  where
    go :
        (a b : Bool) → eqb w.index j ≡ b →
        (member m (numbers key t ws) ≡ false → found ws t j rows ≡ []) →
        member m (pick a (insert (key w.index) (numbers key t ws)) (numbers key t ws)) ≡ false →
        pick (a && b) (rows w.word) (found ws t j rows) ≡ []
    go true true q later miss =
        let parts = neither (eqb m (key w.index)) _ (sym (member_insert m (key w.index) (numbers key t ws)) ∙ miss) in
        let here = eq-eqb m (key w.index) (sym back ∙ sym (ap key (eqb-true w.index j q))) in
        let clash = sym here ∙ parts.0 in
        absurd (let z : ◌≡◌ {A = ℕ} 0 1 = cc in omega arith)
    go true false q later miss =
        later (neither (eqb m (key w.index)) _ (sym (member_insert m (key w.index) (numbers key t ws)) ∙ miss)).1
    go false b q later miss = later miss

-- rows alike for each number are alike for all
alike : (f g : ℕ → List Row) (k n : ℕ) → ((j : ℕ) → j < k + n → f j ≡ g j) → each f (range k n) ≡ each g (range k n)
unfolding flat_map range
alike f g k zero same = refl
alike f g k (suc n) same =
    rw (same k (omega arith), alike f g (suc k) n (λ j h. same j (omega (arith, h))))

-- each part of the list: the rows of a word by what is wanted there

abbrev live_one : Area → ℕ → List Row
live_one a d = given a.present (row18 1 (area_slot a) d a.table)

abbrev other : Layout → ℕ → ℕ → ℕ → List Row
other l t j d = given (not (eqb d 0) && not (live_at l t j)) (spurious t j d ∷ [])

abbrev image : Layout → Window
image l = image_window l.guest_image_pa

abbrev image_one : Layout → ℕ → List Row
image_one l d = given (image l).present (row19 d (image l).pa)

abbrev data_one : Layout → ℕ → List Row
data_one l d = row18 3 (l2_slot l.data_ipa_base) d l.l3_data_pa

abbrev page_one : List ℕ → Layout → ℕ → ℕ → List Row
page_one base l m d =
    leaf_row 4 m d m (read_page d) (wanted_leaf (get_or base m 0) (page_address (l.data_pa_base + m * page)) false)

-- where super frame m stands, and which frame stands there
abbrev super_at : Layout → ℕ → ℕ
super_at l m = l2_slot (l.sup_ipa_base + m * block)

abbrev frame_at : Layout → ℕ → ℕ
frame_at l j = (j + (entries - l2_slot l.sup_ipa_base)) % entries

abbrev super_one : List ℕ → Layout → ℕ → ℕ → List Row
super_one sup l m d =
    leaf_row 5 (super_at l m) d m (read_block d)
    (wanted_leaf (get_or sup m 0) (block_address (l.sup_pa_base + m * block)) l.sup_wx_exempt)

abbrev device_one : ℕ → Window → ℕ → ℕ → List Row
device_one t w j d = block_row t j d (wanted_block w j)

abbrev itself : ℕ → ℕ
itself j = j

-- by which number a table is gone through
abbrev key_of : Layout → ℕ → ℕ → ℕ
key_of l t = pick (eqb t 5) (frame_at l) itself

-- in each of n tables from t on
abbrev rises : Layout → List Wrong → ℕ → ℕ → Bool
rises l ws t zero = true
rises l ws t (suc n) = rising entries 0 (numbers (key_of l t) t ws) && rises l ws (suc t) n

rises_at :
    (l : Layout) (ws : List Wrong) (t n k : ℕ) → rises l ws t n ≡ true → t ≤ k → k < t + n →
    rising entries 0 (numbers (key_of l k) k ws) ≡ true
rises_at l ws t zero k up lo hi = absurd (omega (arith, lo, hi))
rises_at l ws t (suc n) k up lo hi =
    let parts = halves (rising entries 0 (numbers (key_of l t) t ws)) _ up in
    go (eqb k t) refl parts.0 (λ past. rises_at l ws (suc t) n k parts.1 past (omega (arith, hi)))
  where
    go :
        (b : Bool) → eqb k t ≡ b → rising entries 0 (numbers (key_of l t) t ws) ≡ true →
        (suc t ≤ k → rising entries 0 (numbers (key_of l k) k ws) ≡ true) → rising entries 0 (numbers (key_of l k) k ws) ≡ true
    go true q here later = rw (eqb-true k t q) here
    go false q here later = let ne = eqb-false k t q in later (omega (arith, lo, ne))

-- the others are inside the arena, and are sorted table by table
abbrev pub sorted : Layout → List Wrong → Bool
sorted l ws = inside ws && rises l ws 1 table_count

abbrev others : List Wrong → Layout → ℕ → List Row
others ws l t = each (λ j. found ws t j (other l t j)) (numbers itself t ws)

-- the rows of the others, in verification's order
abbrev pub drawn : List Wrong → List ℕ → List ℕ → Layout → List Row
drawn ws base sup l =
    all_rows
    (all_rows (each (λ a. found ws 1 (area_slot a) (live_one a)) (live_areas_of l) ∷ others ws l 1 ∷ [])
    ∷ all_rows (found ws 2 (l2_slot (image l).ipa) (image_one l) ∷ others ws l 2 ∷ [])
    ∷ all_rows (found ws 3 (l2_slot l.data_ipa_base) (data_one l) ∷ others ws l 3 ∷ [])
    ∷ each (λ m. found ws 4 m (page_one base l m)) (numbers itself 4 ws)
    ∷ each (λ m. found ws 5 (super_at l m) (super_one sup l m)) (numbers (frame_at l) 5 ws)
    ∷ each (λ j. found ws 6 j (device_one 6 (device_window l) j)) (numbers itself 6 ws)
    ∷ [])

by_index : (m : ℕ) → m < entries → (itself m < entries) × (itself m ≡ m)
by_index m h = (h, refl)

by_frame : (l : Layout) (m : ℕ) → m < entries → (super_at l m < entries) × (frame_at l (super_at l m) ≡ m)
by_frame l m h = (omega arith, omega (arith, h))

module _ (arena base sup : List ℕ) (l : Layout) (ws : List Wrong) (long : length arena ≡ arena_length) (good : sorted l ws ≡ true) where
  ok : inside ws ≡ true
  ok = (halves (inside ws) _ good).0

  up : (t : ℕ) → 1 ≤ t → t ≤ table_count → rising entries 0 (numbers (key_of l t) t ws) ≡ true
  up t lo hi = rises_at l ws 1 table_count t (halves (inside ws) _ good).1 lo (omega (arith, hi))

  -- a part of the list that goes by number
  numbered :
      (t : ℕ) (place key : ℕ → ℕ) (rows : ℕ → ℕ → List Row) →
      1 ≤ t → ((m : ℕ) → m < entries → (place m < entries) × (key (place m) ≡ m)) →
      each (λ m. rows m (word arena t (place m))) indices ≡ [] →
      rising entries 0 (numbers key t ws) ≡ true →
      each (λ m. rows m (word (put ws arena) t (place m))) indices
      ≡ each (λ m. found ws t (place m) (rows m)) (numbers key t ws)
  numbered t place key rows lo back clean up =
      alike _ (λ m. found ws t (place m) (rows m)) 0 entries
      (λ m h.
      seen arena ws t (place m) (rows m) long ok lo (back m h).0
      (everywhere (λ m. rows m (word arena t (place m))) entries clean m h))
      ∙ sparse (λ m. found ws t (place m) (rows m)) entries 0 (numbers key t ws) (omega arith) up
      (λ m le lt miss. gaps ws key t m (place m) (rows m) (back m lt).1 miss)

  other_words :
      (t : ℕ) → 1 ≤ t → other_rows arena l t ≡ [] → rising entries 0 (numbers itself t ws) ≡ true →
      other_rows (put ws arena) l t ≡ others ws l t
  unfolding other_row
  other_words t lo clean up = numbered t itself itself (other l t) lo by_index clean up

  live_words :
      (xs : List Area) → each (live_row arena) xs ≡ [] →
      each (live_row (put ws arena)) xs ≡ each (λ a. found ws 1 (area_slot a) (live_one a)) xs
  unfolding flat_map live_row
  live_words [] clean = refl
  live_words (a ∷ xs) clean =
      let parts = both (live_row arena a) (each (live_row arena) xs) clean in
      rw (seen arena ws 1 (area_slot a) (live_one a) long ok (omega arith) (omega arith) parts.0, live_words xs parts.1)

  all_words : encoding_rows arena base sup l ≡ [] → encoding_rows (put ws arena) base sup l ≡ drawn ws base sup l
  unfolding encoding_rows l1_rows image_rows data_rows base_row super_row device_row flat_map
  all_words clean =
      let part1 = both (l1_rows arena l) _ clean in
      let part2 = both (image_rows arena l) _ part1.1 in
      let part3 = both (data_rows arena l) _ part2.1 in
      let part4 = both (page_rows arena base l) _ part3.1 in
      let part5 = both (super_rows arena sup l) _ part4.1 in
      let part6 = both (device_rows arena 6 (device_window l)) [] part5.1 in
      let live = both (each (live_row arena) (live_areas_of l)) _ part1.0 in
      let blocks = both (image_one l (word arena 2 (l2_slot (image l).ipa))) _ part2.0 in
      let named = both (data_one l (word arena 3 (l2_slot l.data_ipa_base))) _ part3.0 in
      rw (
        live_words (live_areas_of l) live.0,
        other_words 1 (omega arith) (both (other_rows arena l 1) [] live.1).0 (up 1 (omega arith) (omega arith)),
        seen arena ws 2 (l2_slot (image l).ipa) (image_one l) long ok (omega arith) (omega arith) blocks.0,
        other_words 2 (omega arith) (both (other_rows arena l 2) [] blocks.1).0 (up 2 (omega arith) (omega arith)),
        seen arena ws 3 (l2_slot l.data_ipa_base) (data_one l) long ok (omega arith) (omega arith) named.0,
        other_words 3 (omega arith) (both (other_rows arena l 3) [] named.1).0 (up 3 (omega arith) (omega arith)),
        numbered 4 itself itself (page_one base l) (omega arith) by_index part4.0 (up 4 (omega arith) (omega arith)),
        numbered 5 (super_at l) (frame_at l) (super_one sup l) (omega arith) (by_frame l) part5.0 (up 5 (omega arith) (omega arith)),
        numbered 6 itself itself (device_one 6 (device_window l)) (omega arith) by_index part6.0 (up 6 (omega arith) (omega arith)),
      )

pub first_drawn :
    (arena base sup : List ℕ) (l : Layout) (ws : List Wrong) → Verifies arena base sup l → sorted l ws ≡ true →
    first (verify_rows (put ws arena) base sup l) ≡ first (drawn ws base sup l)
unfolding verify_rows row1 flat_map
first_drawn arena base sup l ws v good =
    let lent = both (row1 arena) _ (none _ v) in
    let maps = both (map_rows base sup) _ lent.1 in
    let valid = both (refusals l) _ maps.1 in
    let words = both (encoding_rows arena base sup l) [] valid.1 in
    let long = eqb-true (length arena) arena_length (not-false _ (test _ 1 [] lent.0)) in
    let still = eq-eqb (length (put ws arena)) arena_length (put_long ws arena ∙ long) in
    let rows = drawn ws base sup l in
    let whole : rows ++ [] ≡ rows = append-nil rows in
    rw (still, maps.0, valid.0, all_words arena base sup l ws long good words.0, whole)
