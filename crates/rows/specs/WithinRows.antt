-- Order inside rows 3, 6, 7 and 9 to 14: of two checks, tables, windows, pairs or positions that fail, the first is told.
use Rattle.std.specs.Prelude.{ℕ, ◌+◌, ◌-◌, ◌*◌, ◌^◌, List, [], ◌∷◌, ◌≡◌, get_or, set}
use Rattle.layout.specs.Layout.{layout_of, image_field, field_at}
use Rattle.layout.specs.Size.{page, block, l1_span, input_limit, arena_length}
use Rattle.refusal.specs.Table.{row, Outcome, refused, first}
use Rattle.rows.specs.Examples.{scene_s, base_s, sup_s, line, validated, guarded}
use Rattle.rows.specs.Faults.{Fault, fault, FirstTold}
use Rattle.rows.specs.Rows.{refusals_at}

-- S with an image
abbrev pub imaged : ℕ → List ℕ → List ℕ
imaged pa x = line image_field pa (set x (image_field - 1) 1)

abbrev pub image_s : List ℕ
image_s = imaged 0x4020_0000 scene_s

-- row 6: data ipa, data pa, super ipa, super pa, image, device; by code, field, value and unit
abbrev pub unaligned_at : ℕ → ℕ → ℕ → ℕ → Fault (List ℕ)
unaligned_at code n v unit = fault (line n v) (row 6 (code ∷ v ∷ unit ∷ []))

abbrev pub faults6 : List (Fault (List ℕ))
faults6 =
    unaligned_at 1 0x8 0x8000_1000 block
    ∷ unaligned_at 2 0x9 0x5000_0800 page
    ∷ unaligned_at 3 0xB 0xC000_1000 block
    ∷ unaligned_at 4 0xC 0x6000_1000 block
    ∷ unaligned_at 5 0x7 0x4020_1000 block
    ∷ unaligned_at 6 0xD 0x900_1000 block
    ∷ []

-- row 7: tables 1 to 6, whose addresses are fields 1 to 6
abbrev pub unnameable : ℕ → ℕ → Fault (List ℕ)
unnameable n pa = fault (line n pa) (row 7 (n ∷ pa ∷ []))

abbrev pub faults7 : List (Fault (List ℕ))
faults7 =
    unnameable 1 0x4000_0001
    ∷ unnameable 2 (2 ^ 48)
    ∷ unnameable 3 0x4000_2800
    ∷ unnameable 4 (2 ^ 48)
    ∷ unnameable 5 0x4000_4002
    ∷ unnameable 6 (2 ^ 48)
    ∷ []

-- row 9: image, data, super, device, each in a slot of its own
abbrev pub faults9 : List (Fault (List ℕ))
faults9 =
    fault (line 0x7 input_limit) (row 9 (0 ∷ block ∷ []))
    ∷ fault (line 0x8 (input_limit + l1_span)) (row 9 (1 ∷ block ∷ []))
    ∷ fault (line 0x10 513) (row 9 (3 ∷ 513 * block ∷ []))
    ∷ fault (line 0xD (input_limit + 2 * l1_span)) (row 9 (2 ∷ block ∷ []))
    ∷ []

-- row 10: image, data, super, device; below the limit of 2^48 an image or a device that fails is 9, so here it is 2^32
abbrev pub low_limit : ℕ
low_limit = 2 ^ 32

abbrev pub validated_low : List ℕ → Outcome
validated_low x = first (refusals_at low_limit (layout_of x))

abbrev pub output_at : ℕ → ℕ → ℕ → Fault (List ℕ)
output_at code n pa = fault (line n pa) (row 10 (code ∷ pa ∷ []))

abbrev pub faults10 : List (Fault (List ℕ))
faults10 =
    output_at 1 0x7 0x1_4000_0000
    ∷ output_at 2 0x9 0x1_8000_0000
    ∷ output_at 3 0xC 0x1_C000_0000
    ∷ output_at 4 0xD 0x2_0000_0000
    ∷ []

-- 11 and 12: a window is moved into the slot, or into the output, of another
abbrev pub collides : ℕ → ℕ → ℕ → Fault (List ℕ)
collides n ipa at = fault (line n ipa) (row 11 (at ∷ []))

abbrev pub overlaps : ℕ → ℕ → Fault (List ℕ)
overlaps n pa = fault (line n pa) (row 12 [])

-- row 13: the lowest first table, then the lowest second; table t at table s's address
abbrev pub equal_tables : ℕ → ℕ → Fault (List ℕ)
equal_tables s t = fault (λ x. line t (get_or x (field_at s) 0) x) (row 13 (s ∷ t ∷ []))

abbrev pub faults13 : List (Fault (List ℕ))
faults13 =
    equal_tables 1 2
    ∷ equal_tables 1 3
    ∷ equal_tables 1 4
    ∷ equal_tables 1 5
    ∷ equal_tables 1 6
    ∷ equal_tables 2 3
    ∷ equal_tables 2 4
    ∷ equal_tables 2 5
    ∷ equal_tables 2 6
    ∷ equal_tables 3 4
    ∷ equal_tables 3 5
    ∷ equal_tables 3 6
    ∷ equal_tables 4 5
    ∷ equal_tables 4 6
    ∷ []

pub record WithinRows : Type 0 where
  pub checks : FirstTold validated image_s faults6
  pub tables : FirstTold validated image_s faults7
  pub regions : FirstTold validated image_s faults9
  pub outputs : FirstTold validated_low image_s faults10
  -- pair by pair: image with data, with super, with device, data with super, with device, super with device
  pub image_data : FirstTold validated image_s (overlaps 0x7 0x5000_0000 ∷ collides 0xB 0x4040_0000 1 ∷ [])
  pub image_super : FirstTold validated image_s (overlaps 0x7 0x6000_0000 ∷ collides 0xD 0x4040_0000 1 ∷ [])
  pub image_device : FirstTold validated image_s (collides 0xD 0x4040_0000 1 ∷ collides 0xB 0x8020_0000 2 ∷ [])
  pub data_super : FirstTold validated image_s (overlaps 0xC 0x5000_0000 ∷ collides 0xD 0x8040_0000 2 ∷ [])
  pub data_device : FirstTold validated image_s (overlaps 0x9 0x900_0000 ∷ collides 0xB 0x20_0000 0 ∷ [])
  pub two_equal_tables : FirstTold (guarded arena_length base_s sup_s) scene_s faults13
  -- the last pair cannot fail beside the one before it: then tables 4 and 5 are equal, too
  pub last_tables : guarded arena_length base_s sup_s ((equal_tables 5 6).change scene_s) ≡ refused (row 13 (5 ∷ 6 ∷ []))
  -- the lowest position
  pub codes : guarded arena_length (0 ∷ 4 ∷ 5 ∷ []) sup_s scene_s ≡ refused (row 3 (1 ∷ 1 ∷ []))
  pub supers : guarded arena_length base_s (0 ∷ 0 ∷ 0 ∷ 0 ∷ 1 ∷ 1 ∷ []) scene_s ≡ refused (row 14 (4 ∷ []))
