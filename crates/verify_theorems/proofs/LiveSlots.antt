-- `live_slots_gone`: the slots that were gathered are those of the areas that are present.
use Rattle.std.specs.Prelude.{Some, None, Option}
use Prim.Native.Nat.{ℕ, suc, ◌+◌, ◌≤◌}
use mathlib.Core.Bool.{Bool, true, false, not, ◌&&◌, ◌||◌, or-false}
use mathlib.Core.List.{List, [], ◌∷◌, ◌++◌, map, foldl, flat_map, append-nil}
use mathlib.Core.Path.{◌≡◌, refl, sym, ap, ap₂, fun_ext, subst, ◌∙◌}
use native.Mathlib.Omega.{arith}
use lib.Dec.{eqb}
use lib.ListN.{length, length-set}
use lib.Seq.{take-suc-set, append_snoc}
use Rattle.areas.specs.Area.{area, data_area, super_area, device_area, live_areas_of, area_slot}
use Rattle.areas.specs.declared.Area.{Area}
use Rattle.fields.specs.Named.{pick}
use Rattle.layout.specs.Window.{image_window, l2_slot}
use Rattle.layout.specs.declared.Layout.{Layout}
use Rattle.refusal.specs.Table.{Row, given, each}
use Rattle.verify_rows.specs.Verifying.{word, indices, window_at, live_at, live_row, other_row}
use Rattle.verify_rows.specs.Verifying.{other_rows, l1_rows, image_rows, data_rows, encoding_rows, verify_rows}
use Rattle.verify_rows.specs.Word.{row18, row19, spurious}
use Rattle.verify_theorems.specs.LiveSlots.{LiveEntry, live_entry, image_entry, live_entries, Slots}
use Rattle.verify_theorems.specs.LiveSlots.{no_slots, gather, held, live_slots, listed}
use Rattle.verify_theorems.specs.LiveSlots.{dead_except, entry_row, l1_rows_before, image_rows_before, data_rows_before, LiveSlotsGone}

abbrev slots : List LiveEntry → List ℕ
slots es = map (λ e. e.slot) es

-- no place is past the end: the array holds the slots in the order in which they came
gathered_slots :
    (es : List LiveEntry) (s : Slots) →
    s.count + length es ≤ length s.places → held (foldl gather s es) ≡ held s ++ slots es
gathered_slots [] s h = sym (append-nil (held s))
gathered_slots (e ∷ es) s h =
    let room : suc s.count + length es ≤ length (gather s e).places =
    rw (length-set s.places s.count e.slot) (omega (arith, h)) in
    gathered_slots es (gather s e) room
    ∙ ap (λ (front : List ℕ). front ++ slots es) (take-suc-set s.places s.count e.slot (omega (arith, h)))
    ∙ append_snoc (held s) e.slot (slots es)

-- the entry of an area, if it is present
abbrev entry_if : Bool → Area → List LiveEntry
entry_if present a = pick present (live_entry a.ipa a.table ∷ []) []

abbrev entry_of : Area → List LiveEntry
entry_of a = entry_if a.present a

of_image : (image : Option ℕ) (table : ℕ) → image_entry image table ≡ entry_of (area (image_window image) table)
of_image (Some pa) table = refl
of_image None table = refl

in_order : (l : Layout) → live_entries l ≡ flat_map entry_of (live_areas_of l)
unfolding flat_map
in_order l =
    ap₂ (λ image device. entry_of (data_area l) ++ (entry_of (super_area l) ++ (image ++ device)))
    (of_image l.guest_image_pa l.l2_code_pa) (sym (append-nil (entry_of (device_area l))))

-- laws of any areas

no_more : (xs : List Area) → length (flat_map entry_of xs) ≤ length xs
unfolding flat_map
no_more [] = omega arith
no_more (a ∷ xs) = go a.present (no_more xs)
  where
    go : (b : Bool) → length (flat_map entry_of xs) ≤ length xs → length (entry_if b a ++ flat_map entry_of xs) ≤ suc (length xs)
    go true h = omega (arith, h)
    go false h = omega (arith, h)

same_slots : (xs : List Area) (j : ℕ) → listed (slots (flat_map entry_of xs)) j ≡ window_at xs j
unfolding flat_map
same_slots [] j = refl
same_slots (a ∷ xs) j = go a.present (same_slots xs j)
  where
    go :
        (b : Bool) → listed (slots (flat_map entry_of xs)) j ≡ window_at xs j →
        listed (slots (entry_if b a ++ flat_map entry_of xs)) j
        ≡ ((b && eqb (area_slot a) j) || window_at xs j)
    go true later = rw later
    go false later = later

same_rows : (arena : List ℕ) (xs : List Area) → each (entry_row arena) (flat_map entry_of xs) ≡ each (live_row arena) xs
unfolding flat_map live_row
same_rows arena [] = refl
same_rows arena (a ∷ xs) = go a.present (same_rows arena xs)
  where
    go :
        (b : Bool) → each (entry_row arena) (flat_map entry_of xs) ≡ each (live_row arena) xs →
        each (entry_row arena) (entry_if b a ++ flat_map entry_of xs)
        ≡ given b (row18 1 (area_slot a) (word arena 1 (area_slot a)) a.table) ++ each (live_row arena) xs
    go true later = rw later
    go false later = later

-- the array has a place for each
room : (l : Layout) → no_slots.count + length (live_entries l) ≤ length no_slots.places
room l =
    let areas = no_more (live_areas_of l) in
    subst (λ (es : List LiveEntry). no_slots.count + length es ≤ length no_slots.places) (sym (in_order l)) (omega (arith, areas))

-- the slots that were gathered
live_slots_lem : (l : Layout) (j : ℕ) → listed (live_slots l) j ≡ window_at (live_areas_of l) j
live_slots_lem l j =
    ap (λ (live : List ℕ). listed live j) (gathered_slots (live_entries l) no_slots (room l) ∙ ap slots (in_order l))
    ∙ same_slots (live_areas_of l) j

-- the words that a list of a table's live indices leaves are the others
others :
    (arena : List ℕ) (l : Layout) (t : ℕ) (live : List ℕ) →
    ((j : ℕ) → listed live j ≡ live_at l t j) → dead_except arena t live ≡ other_rows arena l t
unfolding other_row
others arena l t live same =
    ap (λ row. each row indices)
    (fun_ext (λ j. let d = word arena t j in ap (λ b. given (not (eqb d 0) && not b) (spurious t j d ∷ [])) (same j)))

-- table by table

table_1 : (arena : List ℕ) (l : Layout) → l1_rows_before arena l ≡ l1_rows arena l
unfolding l1_rows flat_map
table_1 arena l =
    ap₂ (λ live other. live ++ other) (ap (each (entry_row arena)) (in_order l) ∙ same_rows arena (live_areas_of l))
    (others arena l 1 (live_slots l) (live_slots_lem l) ∙ sym (append-nil (other_rows arena l 1)))

table_2 : (arena : List ℕ) (l : Layout) → image_rows_before arena l.guest_image_pa ≡ image_rows arena l
unfolding image_rows flat_map
table_2 arena l = go l.guest_image_pa refl
  where
    at : Option ℕ → ℕ → Bool
    at image i = (image_window image).present && eqb (l2_slot (image_window image).ipa) i

    rows :
        (live : List ℕ) → ((i : ℕ) → listed live i ≡ at l.guest_image_pa i) →
        dead_except arena 2 live ≡ other_rows arena l 2 ++ []
    rows live same = others arena l 2 live same ∙ sym (append-nil (other_rows arena l 2))

    go :
        (image : Option ℕ) → l.guest_image_pa ≡ image →
        image_rows_before arena image
        ≡ given (image_window image).present (row19 (word arena 2 (l2_slot (image_window image).ipa)) (image_window image).pa)
        ++ (other_rows arena l 2 ++ [])
    go (Some pa) e =
        ap (λ (other : List Row). row19 (word arena 2 (l2_slot pa)) pa ++ other)
        (rows (l2_slot pa ∷ []) (λ i. or-false (eqb (l2_slot pa) i) ∙ sym (ap (λ (g : Option ℕ). at g i) e)))
    go None e = rows [] (λ i. sym (ap (λ (g : Option ℕ). at g i) e))

table_3 : (arena : List ℕ) (l : Layout) → data_rows_before arena (l2_slot l.data_ipa_base) l.l3_data_pa ≡ data_rows arena l
unfolding data_rows flat_map
table_3 arena l =
    let j = l2_slot l.data_ipa_base in
    ap (λ other. row18 3 j (word arena 3 j) l.l3_data_pa ++ other)
    (others arena l 3 (j ∷ []) (λ i. or-false (eqb j i)) ∙ sym (append-nil (other_rows arena l 3)))

pub live_slots_gone : LiveSlotsGone
unfolding verify_rows encoding_rows flat_map
live_slots_gone arena base sup l =
    rw (append-nil (encoding_rows arena base sup l), ← table_1 arena l, ← table_2 arena l, ← table_3 arena l)
