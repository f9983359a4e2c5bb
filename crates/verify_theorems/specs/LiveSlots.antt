-- Request M-101. The answer before, as the Rust makes it: the live level 1 slots are gathered in an array with its count (`live_l1`,
-- `n_live`), and each word that is not 0 is looked up in what is gathered (`dead_except`).
use Rattle.std.specs.Prelude.{Some, None, Option}
use Rattle.std.specs.Prelude.{ℕ, suc, Bool, false, not, ◌&&◌, ◌||◌, ◌≡◌, eqb, ltb, set, take}
use mathlib.Core.List.{List, [], ◌∷◌, ◌++◌, foldl}
use Rattle.fields.specs.Named.{pick}
use Rattle.layout.specs.Window.{device_window, l1_slot, l2_slot}
use Rattle.layout.specs.declared.Layout.{Layout}
use Rattle.refusal.specs.Table.{Row, given, each, all_rows}
use Rattle.rows.specs.Rows.{row1, map_rows, refusals}
use Rattle.verify_rows.specs.Verifying.{word, indices, page_rows, super_rows, device_rows, verify_rows}
use Rattle.verify_rows.specs.Word.{row18, row19, spurious}

-- a live entry of table 1: its slot, and the table that it is to name
pub record LiveEntry : Type 0 where
  pub slot : ℕ
  pub table : ℕ

abbrev pub live_entry : ℕ → ℕ → LiveEntry
live_entry ipa table = record { slot = l1_slot ipa; table = table }

-- none where image or device is absent
abbrev pub image_entry : Option ℕ → ℕ → List LiveEntry
image_entry (Some pa) table = live_entry pa table ∷ []
image_entry None table = []

abbrev pub device_entry : ℕ → ℕ → ℕ → List LiveEntry
device_entry base len table = pick (ltb 0 len) (live_entry base table ∷ []) []

-- data, super, image, device
abbrev pub live_entries : Layout → List LiveEntry
live_entries l =
    live_entry l.data_ipa_base l.l2_data_pa
    ∷ live_entry l.sup_ipa_base l.l2_sup_pa
    ∷ image_entry l.guest_image_pa l.l2_code_pa
    ++ device_entry l.device_base l.device_len l.l2_dev_pa

-- an array of four, and how many slots it holds
pub record Slots : Type 0 where
  pub places : List ℕ
  pub count : ℕ

abbrev pub no_slots : Slots
no_slots = record { places = 0 ∷ 0 ∷ 0 ∷ 0 ∷ []; count = 0 }

-- the next place takes the slot of an entry
abbrev pub gather : Slots → LiveEntry → Slots
gather s e = record { places = set s.places s.count e.slot; count = suc s.count }

-- the slots that it holds
abbrev pub held : Slots → List ℕ
held s = take s.count s.places

-- the Rust gathers while it compares, and returns at the first word that is wrong: where the list is asked, all are in it
abbrev pub gathered : Layout → Slots
gathered l = foldl gather no_slots (live_entries l)

abbrev pub live_slots : Layout → List ℕ
live_slots l = held (gathered l)

-- an index is in a list
abbrev pub listed : List ℕ → ℕ → Bool
listed [] j = false
listed (i ∷ rest) j = eqb i j || listed rest j

-- a word of a table at an index that is not in the list: 21 if not 0
abbrev pub dead_row : List ℕ → ℕ → List ℕ → ℕ → List Row
dead_row arena t live j =
    let d = word arena t j in given (not (eqb d 0) && not (listed live j)) (spurious t j d ∷ [])

abbrev pub dead_except : List ℕ → ℕ → List ℕ → List Row
dead_except arena t live = each (dead_row arena t live) indices

-- the word of a live entry: 18
abbrev pub entry_row : List ℕ → LiveEntry → List Row
entry_row arena e = row18 1 e.slot (word arena 1 e.slot) e.table

-- table 1: 18, then 21
abbrev pub l1_rows_before : List ℕ → Layout → List Row
l1_rows_before arena l = each (entry_row arena) (live_entries l) ++ dead_except arena 1 (live_slots l)

-- table 2: 19, if there is an image, then 21
abbrev pub image_rows_before : List ℕ → Option ℕ → List Row
image_rows_before arena (Some pa) = row19 (word arena 2 (l2_slot pa)) pa ++ dead_except arena 2 (l2_slot pa ∷ [])
image_rows_before arena None = dead_except arena 2 []

-- table 3, with the index and the address of the table of data's pages: 18, then 21
abbrev pub data_rows_before : List ℕ → ℕ → ℕ → List Row
data_rows_before arena j pa = row18 3 j (word arena 3 j) pa ++ dead_except arena 3 (j ∷ [])

-- rows 1 to 12, the words of tables 1 to 3 as above, and those of tables 4 to 6, where nothing is gathered
abbrev pub verify_rows_before : List ℕ → List ℕ → List ℕ → Layout → List Row
verify_rows_before arena base sup l =
    all_rows
    (row1 arena
    ∷ map_rows base sup
    ∷ refusals l
    ∷ l1_rows_before arena l
    ∷ image_rows_before arena l.guest_image_pa
    ∷ data_rows_before arena (l2_slot l.data_ipa_base) l.l3_data_pa
    ∷ page_rows arena base l
    ∷ super_rows arena sup l
    ∷ device_rows arena 6 (device_window l)
    ∷ [])

-- 'for every layout, arena and maps the answer, fields included, is the one before': all rows are, in their order, so that the first is
abbrev pub LiveSlotsGone : Type 0
LiveSlotsGone =
    (arena base sup : List ℕ) (l : Layout) → verify_rows arena base sup l ≡ verify_rows_before arena base sup l
