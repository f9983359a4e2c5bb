-- Verification, by document 01: rows 1 to 12, then what is wrong in the words of the arena, in the order in which they are read.
use Rattle.std.specs.Prelude.{Some, None, Option}
use Rattle.decode.specs.declared.DecodedDevice.{DecodedDevice}
use Rattle.std.specs.Prelude.{ℕ, zero, suc, ◌+◌, ◌*◌, ◌/◌, Bool, true, false, not, ◌&&◌, ◌||◌, List, [], ◌∷◌, eqb, leb, ltb, get_or}
use Rattle.areas.specs.Area.{live_areas_of, area_slot, area_has}
use Rattle.areas.specs.declared.Area.{Area}
use Rattle.desc.specs.Descriptor.{page_address, block_address}
use Rattle.fields.specs.Named.{pick}
use Rattle.layout.specs.Size.{entries, page, block, l1_span, first_word}
use Rattle.layout.specs.Window.{image_window, device_window, l2_slot}
use Rattle.layout.specs.declared.Layout.{Layout}
use Rattle.layout.specs.declared.Window.{Window}
use Rattle.refusal.specs.Table.{Row, given, each, all_rows}
use Rattle.rows.specs.Rows.{row1, map_rows, refusals}
use Rattle.verify_rows.specs.Word.{read_page, read_block, row18, row19, spurious, wanted_leaf, leaf_row, block_row}

-- word j of table t
abbrev pub word : List ℕ → ℕ → ℕ → ℕ
word arena t j = get_or arena (first_word t + j) 0

-- n numbers from k on
unfoldable pub range : ℕ → ℕ → List ℕ
range k zero = []
range k (suc n) = k ∷ range (suc k) n

-- 0 to 511: the indices of a table, and the frames of a map
abbrev pub indices : List ℕ
indices = range 0 entries

-- live l1 words: 18
unfoldable pub live_row : List ℕ → Area → List Row
live_row arena a = let j = area_slot a in given a.present (row18 1 j (word arena 1 j) a.table)

-- a word of table 1 belongs to a window
abbrev pub window_at : List Area → ℕ → Bool
window_at [] j = false
window_at (a ∷ rest) j = area_has a j || window_at rest j

-- the image's block stands in table 2, and the table of data's pages is named in table 3
abbrev pub image_at : Layout → ℕ → Bool
image_at l j = let image = image_window l.guest_image_pa in image.present && eqb (l2_slot image.ipa) j

abbrev pub data_at : Layout → ℕ → Bool
data_at l j = eqb (l2_slot l.data_ipa_base) j

-- the words of tables 1, 2 and 3 that are live
abbrev pub live_at : Layout → ℕ → ℕ → Bool
live_at l t = pick (eqb t 1) (window_at (live_areas_of l)) (pick (eqb t 2) (image_at l) (data_at l))

-- the other words of a table: 21 if not 0
unfoldable pub other_row : List ℕ → Layout → ℕ → ℕ → List Row
other_row arena l t j =
    let d = word arena t j in given (not (eqb d 0) && not (live_at l t j)) (spurious t j d ∷ [])

abbrev pub other_rows : List ℕ → Layout → ℕ → List Row
other_rows arena l t = each (other_row arena l t) indices

-- table 1: 18, then 21
unfoldable pub l1_rows : List ℕ → Layout → List Row
l1_rows arena l = all_rows (each (live_row arena) (live_areas_of l) ∷ other_rows arena l 1 ∷ [])

-- table 2: 19, if there is an image, then 21
unfoldable pub image_rows : List ℕ → Layout → List Row
image_rows arena l =
    let image = image_window l.guest_image_pa in
    all_rows (given image.present (row19 (word arena 2 (l2_slot image.ipa)) image.pa) ∷ other_rows arena l 2 ∷ [])

-- table 3: 18, then 21
unfoldable pub data_rows : List ℕ → Layout → List Row
data_rows arena l =
    let j = l2_slot l.data_ipa_base in
    all_rows (row18 3 j (word arena 3 j) l.l3_data_pa ∷ other_rows arena l 3 ∷ [])

-- base frame m: page m of data's output, at index m of table 4
unfoldable pub base_row : List ℕ → List ℕ → ℕ → ℕ → List Row
base_row arena base pa m =
    let d = word arena 4 m in
    leaf_row 4 m d m (read_page d) (wanted_leaf (get_or base m 0) (page_address (pa + m * page)) false)

-- super frame m: block m of super's output, at its own slot of table 5, also at or past sup_frames
unfoldable pub super_row : List ℕ → List ℕ → ℕ → ℕ → Bool → ℕ → List Row
super_row arena sup ipa pa exempt m =
    let j = l2_slot (ipa + m * block) in
    let d = word arena 5 j in
    leaf_row 5 j d m (read_block d) (wanted_leaf (get_or sup m 0) (block_address (pa + m * block)) exempt)

-- slot j of a device window covers this address
abbrev pub slot_address : Window → ℕ → ℕ
slot_address w j = w.ipa / l1_span * l1_span + j * block

abbrev pub window_holds : Window → ℕ → Bool
window_holds w a = leb w.ipa a && ltb a (w.ipa + w.span)

-- what a device window wants there: itself, execute never, if it contains the address
abbrev pub wanted_block : Window → ℕ → Option DecodedDevice
wanted_block w j =
    let a = slot_address w j in pick (window_holds w a) (Some (record { pa = block_address a; xn = true })) None

-- device slot j: index j of the device's table
unfoldable pub device_row : List ℕ → ℕ → Window → ℕ → List Row
device_row arena t w j = block_row t j (word arena t j) (wanted_block w j)

-- table 4: base frames
abbrev pub page_rows : List ℕ → List ℕ → Layout → List Row
page_rows arena base l = each (base_row arena base l.data_pa_base) indices

-- table 5: super frames
abbrev pub super_rows : List ℕ → List ℕ → Layout → List Row
super_rows arena sup l = each (super_row arena sup l.sup_ipa_base l.sup_pa_base l.sup_wx_exempt) indices

-- the table of a device: its slots
abbrev pub device_rows : List ℕ → ℕ → Window → List Row
device_rows arena t w = each (device_row arena t w) indices

-- what is wrong in the words, table by table
unfoldable pub encoding_rows : List ℕ → List ℕ → List ℕ → Layout → List Row
encoding_rows arena base sup l =
    all_rows
    (l1_rows arena l
    ∷ image_rows arena l
    ∷ data_rows arena l
    ∷ page_rows arena base l
    ∷ super_rows arena sup l
    ∷ device_rows arena 6 (device_window l)
    ∷ [])

-- the whole: 1, 2 and 3, 4 to 12, then the words; 13 and 14 are not tested here
unfoldable pub verify_rows : List ℕ → List ℕ → List ℕ → Layout → List Row
verify_rows arena base sup l =
    all_rows (row1 arena ∷ map_rows base sup ∷ refusals l ∷ encoding_rows arena base sup l ∷ [])
