-- The arena that encoding leaves, by document 01 ("Arena"): tables 4 to 6 are cleared, and runs of words are stored.
use Rattle.std.specs.Prelude.{ℕ, ◌+◌, ◌-◌, ◌*◌, ◌/◌, ◌%◌, Bool, ◌&&◌, eqb, leb, ltb, get_or}
use mathlib.Core.List.{List, [], ◌∷◌, ◌++◌, map, foldl}
use Rattle.areas.specs.Area.{areas_of, area_slot}
use Rattle.areas.specs.declared.Area.{Area}
use Rattle.arena.specs.Word.{table_to, page_to, block_to, image_to, device_to, leaf_for}
use Rattle.fields.specs.Named.{pick}
use Rattle.layout.specs.Size.{entries, page, block}
use Rattle.layout.specs.Window.{image_window, device_window, l2_slot}
use Rattle.layout.specs.declared.Layout.{Layout}
use Rattle.layout.specs.declared.Window.{Window}

-- words of one table from an index on: the p-th is `word p`, and 0 is no word
pub record Run : Type 0 where
  pub table : ℕ
  pub from : ℕ
  pub count : ℕ
  pub word : ℕ → ℕ

abbrev pub run : ℕ → ℕ → ℕ → (ℕ → ℕ) → Run
run t j n word = record { table = t; from = j; count = n; word = word }

-- a single word
abbrev pub one : ℕ → ℕ → ℕ → Run
one t j w = run t j 1 (λ p. w)

-- a run that is there or not: then it has no word
abbrev pub present_run : Bool → Run → Run
present_run there r = run r.table r.from (pick there r.count 0) r.word

-- word i of the arena stands in one of its tables, at an index
abbrev pub table_of : ℕ → ℕ
table_of i = 1 + i / entries

abbrev pub index_of : ℕ → ℕ
index_of i = i % entries

-- the run's word at word i of the arena
unfoldable pub word_at : Run → ℕ → ℕ
word_at r i =
    let j = index_of i in
    pick (eqb (table_of i) r.table && leb r.from j && ltb j (r.from + r.count)) (r.word (j - r.from)) 0

-- an old word remains unless overwritten
abbrev pub overwrite : ℕ → ℕ → ℕ
overwrite old w = pick (eqb w 0) old w

-- the runs in order
unfoldable pub stored : List Run → ℕ → ℕ → ℕ
stored rs i old = foldl (λ w r. overwrite w (word_at r i)) old rs

-- page p by entry p of the base map, block p by entry p of the super map, and block p of a device
abbrev pub page_at : ℕ → List ℕ → ℕ → ℕ
page_at pa base p = leaf_for (get_or base p 0) (page_to (pa + p * page))

abbrev pub super_at : ℕ → Bool → List ℕ → ℕ → ℕ
super_at pa exempt sup p = leaf_for (get_or sup p 0) (block_to (pa + p * block) exempt)

abbrev pub device_at : ℕ → ℕ → ℕ
device_at base p = device_to (base + p * block)

abbrev pub page_run : Layout → List ℕ → Run
page_run l base = run 4 0 entries (page_at l.data_pa_base base)

-- a super stands at its own slot, not at its frame number
abbrev pub super_run : Layout → List ℕ → Run
super_run l sup =
    run 5 (l2_slot l.sup_ipa_base) l.sup_frames (super_at l.sup_pa_base l.sup_wx_exempt sup)

-- a device that is absent has no length
abbrev pub device_run : ℕ → Window → Run
device_run t w = run t (l2_slot w.ipa) (w.span / block) (device_at w.ipa)

abbrev pub image_run : Layout → Run
image_run l =
    let image = image_window l.guest_image_pa in
    present_run image.present (one 2 (l2_slot image.ipa) (image_to image.pa))

-- the table of data's pages
abbrev pub page_table_run : Layout → Run
page_table_run l = one 3 (l2_slot l.data_ipa_base) (table_to l.l3_data_pa)

-- a window that is present has a level 1 word, which names its table
abbrev pub area_run : Area → Run
area_run a = present_run a.present (one 1 (area_slot a) (table_to a.table))

-- tables 1 to 3: a word for each area, the image's block, and the table of data's pages
unfoldable pub upper_runs : Layout → List Run
upper_runs l = map area_run (areas_of l) ++ (image_run l ∷ page_table_run l ∷ [])

-- table 4 and on: the leaves of pages, supers and devices
unfoldable pub leaf_runs : Layout → List ℕ → List ℕ → List Run
leaf_runs l base sup = page_run l base ∷ super_run l sup ∷ device_run 6 (device_window l) ∷ []

abbrev pub runs_of : Layout → List ℕ → List ℕ → List Run
runs_of l base sup = upper_runs l ++ leaf_runs l base sup

-- tables 4 and on alone are cleared
abbrev pub cleared : ℕ → ℕ → ℕ
cleared i old = pick (ltb 3 (table_of i)) 0 old

-- word i after encoding, where `old` stood
unfoldable pub encoded : Layout → List ℕ → List ℕ → ℕ → ℕ → ℕ
encoded l base sup i old = stored (runs_of l base sup) i (cleared i old)

-- what encoding into zeros leaves there
abbrev pub target : Layout → List ℕ → List ℕ → ℕ → ℕ
target l base sup i = encoded l base sup i 0
