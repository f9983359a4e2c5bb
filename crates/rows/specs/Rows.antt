-- Rows 1 to 14 of document 01's table, and the order in which a layout, and encoding and updates, test them.
use Rattle.std.specs.Prelude.{ℕ, ◌+◌, ◌%◌, Bool, not, ◌&&◌, ◌||◌, List, [], ◌∷◌, ◌++◌, eqb, leb, ltb, length}
use Rattle.fields.specs.Named.{pick}
use Rattle.layout.specs.Check.{unaligned, checks_of}
use Rattle.layout.specs.Layout.{tables_of}
use Rattle.layout.specs.Size.{entries, page, block, l1_span, input_limit, output_limit, board_limit, uncountable, arena_length}
use Rattle.layout.specs.Window.{devices_of, windows_of, slot}
use Rattle.layout.specs.declared.Check.{Check}
use Rattle.layout.specs.declared.Layout.{Layout}
use Rattle.layout.specs.declared.Table.{Table}
use Rattle.layout.specs.declared.Window.{Window}
use Rattle.refusal.specs.Table.{Row, given, refuse_if, each, each_from, pairs, all_rows}

-- row 1: arena not 3,072 words
unfoldable pub row1 : List ℕ → List Row
row1 arena = refuse_if (not (eqb (length arena) arena_length)) 1 []

-- row 2: map over 512
unfoldable pub row2 : List ℕ → List Row
row2 map = refuse_if (ltb entries (length map)) 2 []

-- row 3: map byte above 3; the map's code and the byte's position
unfoldable pub row3 : ℕ → ℕ → ℕ → List Row
row3 code p byte = refuse_if (ltb 3 byte) 3 (code ∷ p ∷ [])

-- row 4: device_len not k × 2 MiB; of a device's window
unfoldable pub row4 : Window → List Row
row4 w = refuse_if (unaligned w.span block) 4 (w.ipa ∷ w.span ∷ [])

-- row 5: frame_size not 4,096
unfoldable pub row5 : Layout → List Row
row5 l = refuse_if (not (eqb l.frame_size page)) 5 (l.frame_size ∷ [])

-- row 6: window unaligned (data pa 4,096, others 2 MiB; device if length above 0): one of `checks_of`'s six
unfoldable pub row6 : Check → List Row
row6 c = refuse_if c.fails 6 (c.code ∷ c.base ∷ c.align ∷ [])

-- row 7: table address at or past the limit or not k × 4,096
unfoldable pub row7 : ℕ → Table → List Row
row7 limit t =
    given t.present (refuse_if (leb limit t.pa || unaligned t.pa page) 7 (t.code ∷ t.pa ∷ []))

-- row 8: sup_frames ≥ 2^43
unfoldable pub row8 : Layout → List Row
row8 l = refuse_if (leb uncountable l.sup_frames) 8 (l.sup_frames ∷ [])

-- row 9: window starts at or past 2^39 or crosses its 1 GiB
unfoldable pub row9 : Window → List Row
row9 w =
    given w.present
    (refuse_if (leb input_limit w.ipa || ltb l1_span (w.ipa % l1_span + w.span)) 9 (slot w ∷ w.span ∷ []))

-- row 10: output end above the limit
unfoldable pub row10 : ℕ → Window → List Row
row10 limit w = given w.present (refuse_if (ltb limit (w.pa + w.span)) 10 (w.code ∷ w.pa ∷ []))

-- row 11: same l1 slot
abbrev pub row11 : Window → Window → List Row
row11 v w = refuse_if (eqb (slot v) (slot w)) 11 (slot v ∷ [])

-- two ranges overlap, by base and length; one of no length does so strictly inside the other
abbrev pub overlap : ℕ → ℕ → ℕ → ℕ → Bool
overlap a alen b blen = ltb a (b + blen) && ltb b (a + alen)

-- row 12: outputs overlap
abbrev pub row12 : Window → Window → List Row
row12 v w = refuse_if (overlap v.pa v.span w.pa w.span) 12 []

-- row 13: two equal table addresses
unfoldable pub row13 : Table → Table → List Row
row13 s t = given (s.present && t.present) (refuse_if (eqb s.pa t.pa) 13 (s.code ∷ t.code ∷ []))

-- row 14: super mapped at or past sup_frames, by its position
unfoldable pub row14 : ℕ → ℕ → ℕ → List Row
row14 frames p byte = refuse_if (not (eqb byte 0) && leb frames p) 14 (p ∷ [])

-- 2 takes base before super
unfoldable pub length_rows : List ℕ → List ℕ → List Row
length_rows base sup = all_rows (row2 base ∷ row2 sup ∷ [])

-- maps that are read: 2, then 3, base before super; their codes are 1 and 2
unfoldable pub map_rows : List ℕ → List ℕ → List Row
map_rows base sup = all_rows (length_rows base sup ∷ each_from (row3 1) 0 base ∷ each_from (row3 2) 0 sup ∷ [])

-- one map that is read, by its code
unfoldable pub read_rows : ℕ → List ℕ → List Row
read_rows code map = all_rows (row2 map ∷ each_from (row3 code) 0 map ∷ [])

-- 11 and 12 of a pair, if both windows are present
unfoldable pub pair_rows : Window → Window → List Row
pair_rows v w = given (v.present && w.present) (row11 v w ++ row12 v w)

-- 9 and 10 take all windows; then come 11 and 12 pair by pair
unfoldable pub window_rows : ℕ → List Window → List Row
window_rows limit ws = all_rows (each row9 ws ∷ each (row10 limit) ws ∷ pairs pair_rows ws ∷ [])

-- no limit is above 2^48
abbrev pub capped : ℕ → ℕ
capped limit = pick (ltb output_limit limit) output_limit limit

-- a layout: 4 to 12, where tables and outputs lie below a limit
unfoldable pub refusals_at : ℕ → Layout → List Row
refusals_at limit l =
    all_rows
    (each row4 (devices_of l)
    ∷ row5 l
    ∷ each row6 (checks_of l)
    ∷ each (row7 (capped limit)) (tables_of l)
    ∷ row8 l
    ∷ window_rows (capped limit) (windows_of l)
    ∷ [])

abbrev pub refusals : Layout → List Row
refusals l = refusals_at board_limit l

-- where no arena is lent: 2 and 3, then 4 to 12, then 13, then 14
unfoldable pub guard_rows : ℕ → List ℕ → List ℕ → Layout → List Row
guard_rows limit base sup l =
    all_rows
    (map_rows base sup
    ∷ refusals_at limit l
    ∷ pairs row13 (tables_of l)
    ∷ each_from (row14 l.sup_frames) 0 sup
    ∷ [])

-- encoding and updates: 1, then the others
unfoldable pub arena_guard_rows : ℕ → List ℕ → List ℕ → List ℕ → Layout → List Row
arena_guard_rows limit arena base sup l = all_rows (row1 arena ∷ guard_rows limit base sup l ∷ [])
