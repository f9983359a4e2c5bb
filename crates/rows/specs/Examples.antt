-- The examples of document 01's rows 1 to 14, its accepted edges, and the order of its rows.
use Rattle.std.specs.Prelude.{ℕ, ◌-◌, ◌*◌, ◌^◌, List, [], ◌∷◌, ◌≡◌, replicate, set}
use Rattle.layout.specs.Layout.{layout_of, field_at}
use Rattle.layout.specs.Size.{block, board_limit, arena_length}
use Rattle.refusal.specs.Table.{row, Outcome, accepted, refused, first}
use Rattle.rows.specs.Rows.{arena_guard_rows, refusals_at, refusals}

-- S, by its lines: fields 1 to 10, and no image
abbrev pub scene_s : List ℕ
scene_s =
    0x4000_0000
    ∷ 0x4000_1000
    ∷ 0x4000_2000
    ∷ 0x4000_3000
    ∷ 0x4000_4000
    ∷ 0x4000_5000
    ∷ 0
    ∷ 0
    ∷ 0x8000_0000
    ∷ 0x5000_0000
    ∷ 0x1000
    ∷ 0xC000_0000
    ∷ 0x6000_0000
    ∷ 0x900_0000
    ∷ 0x20_0000
    ∷ 0
    ∷ 4
    ∷ []

-- S with another value in a field, by its number
abbrev pub line : ℕ → ℕ → List ℕ → List ℕ
line n v x = set x (field_at n) v

abbrev pub base_s : List ℕ
base_s = 0 ∷ 2 ∷ []

abbrev pub sup_s : List ℕ
sup_s = 0 ∷ 0 ∷ 3 ∷ []

abbrev pub validated : List ℕ → Outcome
validated x = first (refusals (layout_of x))

abbrev pub guarded : ℕ → List ℕ → List ℕ → List ℕ → Outcome
guarded words base sup x = first (arena_guard_rows board_limit (replicate words 0) base sup (layout_of x))

-- where several rows apply, the first is the answer
pub record Ordered : Type 0 where
  pub one_two : guarded (arena_length - 1) (replicate 513 0) sup_s scene_s ≡ refused (row 1 [])
  pub two_three : guarded arena_length (0 ∷ 4 ∷ []) (replicate 513 0) scene_s ≡ refused (row 2 [])
  pub three_four : guarded arena_length base_s (4 ∷ []) (line 0xE 4096 scene_s) ≡ refused (row 3 (2 ∷ 0 ∷ []))
  pub four_five : validated (line 0xE 4096 (line 0xA 0 scene_s)) ≡ refused (row 4 (0x900_0000 ∷ 4096 ∷ []))
  pub five_six : validated (line 0xA 0 (line 8 1 scene_s)) ≡ refused (row 5 (0 ∷ []))
  pub six_seven : validated (line 8 1 (line 1 1 scene_s)) ≡ refused (row 6 (1 ∷ 1 ∷ block ∷ []))
  pub seven_eight : validated (line 1 1 (line 0x10 (2 ^ 43) scene_s)) ≡ refused (row 7 (1 ∷ 1 ∷ []))
  pub eight_nine : validated (line 0x10 (2 ^ 43) (line 8 (2 ^ 39) scene_s)) ≡ refused (row 8 (2 ^ 43 ∷ []))
  pub nine_ten : validated (line 0x10 513 (line 9 (2 ^ 48) scene_s)) ≡ refused (row 9 (3 ∷ 513 * block ∷ []))
  pub ten_eleven : validated (line 0xC (2 ^ 48) (line 0xB 0x8020_0000 scene_s)) ≡ refused (row 10 (3 ∷ 2 ^ 48 ∷ []))
  pub eleven_twelve : validated (line 0xB 0x8020_0000 (line 0xC 0x5000_0000 scene_s)) ≡ refused (row 11 (2 ∷ []))
  pub pair_by_pair : validated (line 0xC 0x5000_0000 (line 0xD 0xC080_0000 scene_s)) ≡ refused (row 12 [])
  pub twelve_thirteen :
      guarded arena_length base_s sup_s (line 0xC 0x5000_0000 (line 6 0x4000_0000 scene_s)) ≡ refused (row 12 [])
  pub thirteen_fourteen :
      guarded arena_length base_s (0 ∷ 0 ∷ 0 ∷ 0 ∷ 1 ∷ []) (line 6 0x4000_0000 scene_s) ≡ refused (row 13 (1 ∷ 6 ∷ []))
  pub base_super : guarded arena_length (4 ∷ []) (4 ∷ []) scene_s ≡ refused (row 3 (1 ∷ 0 ∷ []))

pub record RowExamples : Type 0 where
  pub S : guarded arena_length base_s sup_s scene_s ≡ accepted
  pub row1 : guarded (arena_length - 1) base_s sup_s scene_s ≡ refused (row 1 [])
  pub row2 : guarded arena_length (replicate 513 0) sup_s scene_s ≡ refused (row 2 [])
  pub row3 : guarded arena_length (0 ∷ 4 ∷ []) sup_s scene_s ≡ refused (row 3 (1 ∷ 1 ∷ []))
  pub row4 : validated (line 0xE 4096 scene_s) ≡ refused (row 4 (0x900_0000 ∷ 4096 ∷ []))
  pub row5 : validated (line 0xA 16384 scene_s) ≡ refused (row 5 (16384 ∷ []))
  pub row6 : validated (line 0xC 0x6000_1000 scene_s) ≡ refused (row 6 (4 ∷ 0x6000_1000 ∷ block ∷ []))
  pub row7 : validated (line 1 (2 ^ 48) scene_s) ≡ refused (row 7 (1 ∷ 2 ^ 48 ∷ []))
  pub row8 : validated (line 0x10 (2 ^ 43) scene_s) ≡ refused (row 8 (2 ^ 43 ∷ []))
  pub row9 : validated (line 0x10 513 scene_s) ≡ refused (row 9 (3 ∷ 513 * block ∷ []))
  pub row10 : validated (line 9 (2 ^ 48 - 4096) scene_s) ≡ refused (row 10 (2 ∷ (2 ^ 48 - 4096) ∷ []))
  pub row11 : validated (line 0xB 0x8020_0000 scene_s) ≡ refused (row 11 (2 ∷ []))
  pub row12 : validated (line 0xC 0x5000_0000 scene_s) ≡ refused (row 12 [])
  pub row13 : guarded arena_length base_s sup_s (line 6 0x4000_0000 scene_s) ≡ refused (row 13 (1 ∷ 6 ∷ []))
  pub row14 : guarded arena_length base_s (0 ∷ 0 ∷ 3 ∷ 0 ∷ 1 ∷ []) scene_s ≡ refused (row 14 (4 ∷ []))
  -- the most frames that row 8 lets by
  pub row8_edge : validated (line 0x10 (2 ^ 43 - 1) scene_s) ≡ refused (row 9 (3 ∷ (2 ^ 43 - 1) * block ∷ []))
  pub frames512 : validated (line 0x10 512 scene_s) ≡ accepted
  pub last_output : validated (line 9 (2 ^ 48 - block) scene_s) ≡ accepted
  pub no_frames : validated (line 0x10 0 (line 0xC 0x5000_0000 scene_s)) ≡ accepted
  -- strictly inside data's output range
  pub no_frames_inside :
      validated (line 0x10 0 (line 0xC 0x5020_0000 (line 9 0x5000_1000 scene_s))) ≡ refused (row 12 [])
  -- a limit above 2^48 is 2^48
  pub table_past_48_bits : first (refusals_at (2 ^ 64) (layout_of (line 1 (2 ^ 48) scene_s))) ≡ refused (row 7 (1 ∷ 2 ^ 48 ∷ []))
  -- a table is tested whether its window is present or not
  pub table_of_no_device : validated (line 0xE 0 (line 6 1 scene_s)) ≡ refused (row 7 (6 ∷ 1 ∷ []))
  pub equal_with_no_device :
      guarded arena_length base_s sup_s (line 0xE 0 (line 6 0x4000_0000 scene_s)) ≡ refused (row 13 (1 ∷ 6 ∷ []))
  -- no row compares tables with outputs
  pub table_in_data : validated (line 9 0x4000_0000 scene_s) ≡ accepted
  pub order : Ordered
