-- Document 01's examples of rows 18 to 22, and verification's order: of two wrong words the first in its list is told.
use Rattle.std.specs.Prelude.{ℕ, ◌-◌, false, List, [], ◌∷◌, map, ◌≡◌, replicate}
use Rattle.layout.specs.Layout.{layout_of}
use Rattle.layout.specs.Size.{arena_length}
use Rattle.refusal.specs.Table.{Row, row, Outcome, refused, first}
use Rattle.rows.specs.Examples.{scene_s, base_s, sup_s, line}
use Rattle.rows.specs.Faults.{Fault, fault, FirstTold}
use Rattle.rows.specs.WithinRows.{imaged}
use Rattle.verify_theorems.specs.LiveSlots.{gathered, live_slots, listed}
use Rattle.verify_theorems.specs.Verified.{Guarding, Encoded, Verifies, stored_at}
use Rattle.verify_rows.specs.Verifying.{verify_rows}

-- what verification tells of an arena, with S's maps
abbrev pub verdict : List ℕ → List ℕ → Outcome
verdict scene arena = first (verify_rows arena base_s sup_s (layout_of scene))

-- S with an image
abbrev pub image_high_s : List ℕ
image_high_s = imaged 0x1_4000_0000 scene_s

-- S, and S with an image; first document 01's examples, then words in which another table or leaf is found
pub record Examples (arena withImage : List ℕ) : Type 0 where
  pub row18 : verdict scene_s (stored_at 1 2 0 arena) ≡ refused (row 18 (1 ∷ 2 ∷ 0 ∷ 0 ∷ 0x4000_2000 ∷ []))
  pub row19 :
      verdict image_high_s (stored_at 2 0 0 withImage)
      ≡ refused (row 19 (0 ∷ 0 ∷ 0 ∷ 0 ∷ 0x1_4000_0000 ∷ []))
  pub row20 :
      verdict scene_s (stored_at 4 1 0 arena) ≡ refused (row 20 (1 ∷ 0 ∷ 0 ∷ 0 ∷ 0 ∷ 1 ∷ 0x5000_1000 ∷ 2 ∷ []))
  pub row21 : verdict scene_s (stored_at 3 7 1 arena) ≡ refused (row 21 (3 ∷ 7 ∷ 1 ∷ []))
  pub row22 : verdict scene_s (stored_at 6 72 0 arena) ≡ refused (row 22 (72 ∷ 0 ∷ []))
  pub other_table :
      verdict scene_s (stored_at 1 2 0x4000_4003 arena) ≡ refused (row 18 (1 ∷ 2 ∷ 1 ∷ 0x4000_4000 ∷ 0x4000_2000 ∷ []))
  pub other_block :
      verdict image_high_s (stored_at 2 0 0x0040_0001_4000_077D withImage)
      ≡ refused (row 19 (1 ∷ 0x1_4000_0000 ∷ 1 ∷ 1 ∷ 0x1_4000_0000 ∷ []))
  pub other_page :
      verdict scene_s (stored_at 4 1 0x0040_0000_5000_277F arena)
      ≡ refused (row 20 (1 ∷ 1 ∷ 0x5000_2000 ∷ 1 ∷ 1 ∷ 1 ∷ 0x5000_1000 ∷ 2 ∷ []))

-- of any arenas that verify
abbrev pub VerifyExamples : Type 0
VerifyExamples =
    (arena withImage : List ℕ) →
    Verifies arena base_s sup_s (layout_of scene_s) →
    Verifies withImage base_s sup_s (layout_of image_high_s) → Examples arena withImage

-- S with an image and two device blocks, and with windows that begin inside their 1 GiB: no part of the list goes by index
abbrev pub apart_s : List ℕ
apart_s = imaged 0x1_4060_0000 (line 0x8 0x80E0_0000 (line 0xB 0xC040_0000 (line 0xE 0x40_0000 scene_s)))

-- a wrong word, by table and index, and the row that it draws
pub record Wrong : Type 0 where
  pub table : ℕ
  pub index : ℕ
  pub word : ℕ
  pub draws : Row

abbrev pub wrong : ℕ → ℕ → ℕ → Row → Wrong
wrong t j d r = record { table = t; index = j; word = d; draws = r }

abbrev pub fault_of : Wrong → Fault (List ℕ)
fault_of w = fault (stored_at w.table w.index w.word) w.draws

-- a word that names no table at pa; a word where none is wanted
abbrev pub unnamed : ℕ → ℕ → ℕ → Wrong
unnamed t j pa = wrong t j 0 (row 18 (t ∷ j ∷ 0 ∷ 0 ∷ pa ∷ []))

abbrev pub spare : ℕ → ℕ → ℕ → Wrong
spare t j d = wrong t j d (row 21 (t ∷ j ∷ d ∷ []))

-- no word where frame m wants a leaf, by address and access
abbrev pub leafless : ℕ → ℕ → ℕ → ℕ → ℕ → Wrong
leafless t j m pa access = wrong t j 0 (row 20 (m ∷ 0 ∷ 0 ∷ 0 ∷ 0 ∷ 1 ∷ pa ∷ access ∷ []))

-- verification's list
abbrev pub wrongs : List Wrong
wrongs =
    -- live l1 words data, super, image, device
    unnamed 1 2 0x4000_2000
    ∷ unnamed 1 3 0x4000_4000
    ∷ unnamed 1 5 0x4000_1000
    ∷ unnamed 1 0 0x4000_5000
    -- other l1 words
    ∷ spare 1 1 3
    ∷ spare 1 4 1
    ∷ spare 1 6 2
    -- table 2: the image's block, then the others
    ∷ wrong 2 3 0 (row 19 (0 ∷ 0 ∷ 0 ∷ 0 ∷ 0x1_4060_0000 ∷ []))
    ∷ spare 2 0 1
    ∷ spare 2 1 1
    -- table 3: the table of data's pages, then the others
    ∷ unnamed 3 7 0x4000_3000
    ∷ spare 3 0 1
    ∷ spare 3 1 1
    -- base frames
    ∷ spare 4 0 0x0040_0000_5000_07FF
    ∷ leafless 4 1 1 0x5000_1000 2
    ∷ spare 4 2 0x0040_0000_5000_27FF
    -- super frames: 0 at index 2, 2 at index 4, 510 at index 0
    ∷ spare 5 2 0x0040_0000_6000_07FD
    ∷ leafless 5 4 2 0x6040_0000 1
    ∷ spare 5 0 0x0040_0000_6000_07FD
    -- device slots
    ∷ spare 6 0 0x0040_0000_0000_04C1
    ∷ wrong 6 72 0 (row 22 (72 ∷ 0 ∷ []))
    ∷ wrong 6 73 0 (row 22 (73 ∷ 0 ∷ []))
    ∷ spare 6 74 0x0040_0000_0940_04C1
    ∷ []

abbrev pub ToldInOrder : Type 0
ToldInOrder =
    (arena : List ℕ) → Verifies arena base_s sup_s (layout_of apart_s) → FirstTold (verdict apart_s) arena (map fault_of wrongs)

-- such arenas there are: layout and maps are let by, and what `encode` leaves from zeros verifies
pub record Sound (scene : List ℕ) : Type 0 where
  pub let_by : Guarding base_s sup_s (layout_of scene)
  pub verifies : (arena : List ℕ) → Encoded arena base_s sup_s (layout_of scene) → Verifies arena base_s sup_s (layout_of scene)

pub record SoundScenes : Type 0 where
  pub S : Sound scene_s
  pub with_image : Sound image_high_s
  pub apart : Sound apart_s

-- before the words come 1, 2 and 3, then `validate`; zeros are wrong from the first word on
pub record BeforeWords : Type 0 where
  pub zeros : verdict scene_s (replicate arena_length 0) ≡ refused (row 18 (1 ∷ 2 ∷ 0 ∷ 0 ∷ 0x4000_2000 ∷ []))
  pub layout : verdict (line 0xC 0x5000_0000 scene_s) (replicate arena_length 0) ≡ refused (row 12 [])
  pub maps :
      first (verify_rows (replicate arena_length 0) (4 ∷ []) sup_s (layout_of (line 0xC 0x5000_0000 scene_s)))
      ≡ refused (row 3 (1 ∷ 0 ∷ []))
  pub arena : first (verify_rows (replicate (arena_length - 1) 0) (4 ∷ []) sup_s (layout_of scene_s)) ≡ refused (row 1 [])

-- the live slots as they were gathered: S has three, and without its device two. The places that are left hold 0, and slot 0 is not live
pub record SlotsS : Type 0 where
  pub three : gathered (layout_of scene_s) ≡ record { places = 2 ∷ 3 ∷ 0 ∷ 0 ∷ []; count = 3 }
  pub two : gathered (layout_of (line 0xE 0 scene_s)) ≡ record { places = 2 ∷ 3 ∷ 0 ∷ 0 ∷ []; count = 2 }
  pub slot_0 : listed (live_slots (layout_of (line 0xE 0 scene_s))) 0 ≡ false
