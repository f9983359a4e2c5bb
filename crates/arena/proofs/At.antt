-- The word that encoding into zeros leaves, by its table: callers use these laws and not the runs.
use Prim.Native.Nat.{ℕ, ◌<◌}
use mathlib.Core.Bool.{Bool, true, false, ◌&&◌, false≢true}
use mathlib.Core.List.{List, [], ◌∷◌, map}
use mathlib.Core.Path.{◌≡◌, refl, sym, ap, ◌∙◌}
use native.Mathlib.Omega.{arith}
use lib.Dec.{eqb, leb, ltb}
use Rattle.std.specs.List.{fold}
use borrow.Author.Tests.{eqb-true, eqb-false, leb-true, ltb-true, ltb-false, ne_eqb}
use Rattle.areas.specs.Area.{areas_of, area_slot, area_has}
use Rattle.areas.specs.declared.Area.{Area}
use Rattle.arena.specs.Encoded.{Run, one, present_run, table_of, index_of, word_at, overwrite, stored, cleared, encoded, target}
use Rattle.arena.specs.Encoded.{page_run, super_run, device_run, image_run, page_table_run, area_run, upper_runs, leaf_runs, runs_of}
use Rattle.arena.specs.Word.{table_to, image_to}
use Rattle.arena.proofs.Runs.{other, before, past, inside, empty}
use Rattle.fields.specs.Named.{pick}
use Rattle.layout.specs.Size.{table_count}
use Rattle.layout.specs.Window.{image_window, device_window, l2_slot}
use Rattle.layout.specs.declared.Layout.{Layout}
use Rattle.layout.specs.declared.Window.{Window}
use Rattle.refusal.proofs.All.{all_map}
use Rattle.refusal.specs.All.{All, AllPairs}

-- the runs of one table
abbrev pub only : ℕ → List Run → List Run
only t [] = []
only t (r ∷ rs) = pick (eqb t r.table) (r ∷ only t rs) (only t rs)

-- they stand in tables of the arena, and past these there are none
abbrev in_tables : List Run → Bool
in_tables [] = true
in_tables (r ∷ rs) = leb r.table table_count && in_tables rs

none_past : (rs : List Run) (t : ℕ) → table_count < t → in_tables rs ≡ true → only t rs ≡ []
none_past [] t h e = refl
none_past (r ∷ rs) t h e = go (leb r.table table_count) refl e (λ f. none_past rs t h f)
  where
    go : (b : Bool) → leb r.table table_count ≡ b → (b && in_tables rs) ≡ true → (in_tables rs ≡ true → only t rs ≡ []) →
        only t (r ∷ rs) ≡ []
    go true q f later =
        let le = leb-true r.table table_count q in
        rw (ne_eqb t r.table (λ same. omega (arith, h, le, same))) (later f)
    go false q f later = absurd (false≢true f)

only_stored : (rs : List Run) (t i old : ℕ) → table_of i ≡ t → stored rs i old ≡ stored (only t rs) i old
unfolding stored
only_stored [] t i old e = refl
only_stored (r ∷ rs) t i old e = go (eqb t r.table) refl (λ x. only_stored rs t i x e)
  where
    go :
        (b : Bool) →
        eqb t r.table ≡ b →
        ((x : ℕ) → stored rs i x ≡ stored (only t rs) i x) →
        stored rs i (overwrite old (word_at r i)) ≡ stored (pick b (r ∷ only t rs) (only t rs)) i old
    go true q rest = rest (overwrite old (word_at r i))
    go false q rest =
        ap (λ w. stored rs i (overwrite old w)) (other r.table r.from r.count r.word i (ap (λ x. eqb x r.table) e ∙ q))
        ∙ rest old

pub overwrite_zero : (w : ℕ) → overwrite 0 w ≡ w
overwrite_zero w = go (eqb w 0) refl
  where
    go : (b : Bool) → eqb w 0 ≡ b → pick b 0 w ≡ w
    go true e = sym (eqb-true w 0 e)
    go false e = refl

pub cleared_zero : (i : ℕ) → cleared i 0 ≡ 0
cleared_zero i = go (ltb 3 (table_of i))
  where
    go : (b : Bool) → ◌≡◌ {A = ℕ} (pick b 0 0) 0
    go true = refl
    go false = refl

-- one word over another: it stands at its own index
single :
    (t s w i old : ℕ) → table_of i ≡ t → (w ≡ 0 → ⊥) → overwrite old (word_at (one t s w) i) ≡ pick (eqb s (index_of i)) w old
single t s w i old e some = go (eqb s (index_of i)) refl
  where
    beside : (s ≡ index_of i → ⊥) → (b : Bool) → ltb (index_of i) s ≡ b → word_at (one t s w) i ≡ 0
    beside ne true q = before t s 1 (λ p. w) i (ltb-true (index_of i) s q)
    beside ne false q = let h = ltb-false (index_of i) s q in past t s 1 (λ p. w) i (omega (arith, h, ne))

    go : (b : Bool) → eqb s (index_of i) ≡ b → overwrite old (word_at (one t s w) i) ≡ pick b w old
    go true q =
        let h = eqb-true s (index_of i) q in
        ap (overwrite old) (inside t s 1 (λ p. w) i e (omega (arith, h)) (omega (arith, h)))
        ∙ ap (λ b. pick b old w) (ne_eqb w 0 some)
    go false q = ap (overwrite old) (beside (eqb-false s (index_of i) q) (ltb (index_of i) s) refl)

names_some : (pa : ℕ) → table_to pa ≡ 0 → ⊥
names_some pa e = omega (arith, e)

image_some : (pa : ℕ) → image_to pa ≡ 0 → ⊥
image_some pa e = omega (arith, e)

-- the same of a word that is there or not
single_if :
    (there : Bool) (t s w i old : ℕ) → table_of i ≡ t → (w ≡ 0 → ⊥) →
    overwrite old (word_at (present_run there (one t s w)) i) ≡ pick (there && eqb s (index_of i)) w old
single_if true t s w i old e some = single t s w i old e some
single_if false t s w i old e some = ap (overwrite old) (empty t s (λ p. w) i)

-- level 1 words of areas, in order: the last at an index stands
abbrev pub last_at : List Area → ℕ → ℕ → ℕ
last_at xs j old = fold (λ w a. pick (area_has a j) (table_to a.table) w) old xs

-- one more: it stands where it has the index
pub named_next :
    (a : Area) (xs : List Area) (i old : ℕ) → table_of i ≡ 1 →
    stored (map area_run (a ∷ xs)) i old ≡ stored (map area_run xs) i (pick (area_has a (index_of i)) (table_to a.table) old)
unfolding stored
named_next a xs i old t =
    ap (stored (map area_run xs) i) (single_if a.present 1 (area_slot a) (table_to a.table) i old t (names_some a.table))

named_last : (xs : List Area) (i old : ℕ) → table_of i ≡ 1 → stored (map area_run xs) i old ≡ last_at xs (index_of i) old
unfolding stored
named_last [] i old t = refl
named_last (a ∷ xs) i old t = named_next a xs i old t ∙ named_last xs i (pick (area_has a (index_of i)) (table_to a.table) old) t

-- where no area has the index
pub last_none : (xs : List Area) (j old : ℕ) → All (λ a. area_has a j ≡ false) xs → last_at xs j old ≡ old
last_none [] j old none = refl
last_none (a ∷ xs) j old none = rw none.0 (last_none xs j old none.1)

-- where no two have it, the one that does
pub last_here :
    (xs : List Area) (j old : ℕ) → AllPairs (λ a b. area_has a j ≡ true → area_has b j ≡ false) xs →
    All (λ a. area_has a j ≡ true → last_at xs j old ≡ table_to a.table) xs
last_here [] j old apart = tt
last_here (a ∷ xs) j old apart = (here, last_here xs j (pick (area_has a j) (table_to a.table) old) apart.1)
  where
    here : area_has a j ≡ true → last_at (a ∷ xs) j old ≡ table_to a.table
    here e =
        ap (λ b. last_at xs j (pick b (table_to a.table) old)) e
        ∙ last_none xs j (table_to a.table) (all_map _ (λ b. area_has b j ≡ false) (λ b f. f e) xs apart.0)

module _ (l : Layout) where
  abbrev image : Window
  image = image_window l.guest_image_pa

  -- tables 1, 2 and 3 by an index
  abbrev pub l1_at : ℕ → ℕ
  l1_at j = last_at (areas_of l) j 0

  abbrev pub image_at : ℕ → ℕ
  image_at j = pick (image.present && eqb (l2_slot image.ipa) j) (image_to image.pa) 0

  abbrev pub data_at : ℕ → ℕ
  data_at j = pick (eqb (l2_slot l.data_ipa_base) j) (table_to l.l3_data_pa) 0

module _ (l : Layout) (base sup : List ℕ) (i : ℕ) where
  of_table : (t : ℕ) → table_of i ≡ t → target l base sup i ≡ stored (only t (runs_of l base sup)) i 0
  unfolding encoded
  of_table t e = ap (stored (runs_of l base sup) i) (cleared_zero i) ∙ only_stored (runs_of l base sup) t i 0 e

  -- the word of its table's one run
  at_run : (t : ℕ) (r : Run) → only t (runs_of l base sup) ≡ r ∷ [] → table_of i ≡ t → target l base sup i ≡ word_at r i
  unfolding stored
  at_run t r one_run e =
      of_table t e ∙ ap (λ rs. stored rs i 0) one_run ∙ overwrite_zero (word_at r i)

  pub at_areas : table_of i ≡ 1 → target l base sup i ≡ stored (map area_run (areas_of l)) i 0
  unfolding upper_runs leaf_runs
  at_areas t = of_table 1 t

  pub at_1 : table_of i ≡ 1 → target l base sup i ≡ l1_at l (index_of i)
  at_1 t = at_areas t ∙ named_last (areas_of l) i 0 t

  -- tables 2 and on have one run each

  pub run_2 : table_of i ≡ 2 → target l base sup i ≡ word_at (image_run l) i
  unfolding upper_runs leaf_runs
  run_2 = at_run 2 (image_run l) refl

  pub run_3 : table_of i ≡ 3 → target l base sup i ≡ word_at (page_table_run l) i
  unfolding upper_runs leaf_runs
  run_3 = at_run 3 (page_table_run l) refl

  pub run_4 : table_of i ≡ 4 → target l base sup i ≡ word_at (page_run l base) i
  unfolding upper_runs leaf_runs
  run_4 = at_run 4 (page_run l base) refl

  pub run_5 : table_of i ≡ 5 → target l base sup i ≡ word_at (super_run l sup) i
  unfolding upper_runs leaf_runs
  run_5 = at_run 5 (super_run l sup) refl

  pub run_6 : table_of i ≡ 6 → target l base sup i ≡ word_at (device_run 6 (device_window l)) i
  unfolding upper_runs leaf_runs
  run_6 = at_run 6 (device_run 6 (device_window l)) refl

  -- in tables 2 and 3 one word

  pub at_2 : table_of i ≡ 2 → target l base sup i ≡ image_at l (index_of i)
  at_2 t =
      run_2 t
      ∙ sym (overwrite_zero (word_at (image_run l) i))
      ∙ single_if (image l).present 2 (l2_slot (image l).ipa) (image_to (image l).pa) i 0 t (image_some (image l).pa)

  pub at_3 : table_of i ≡ 3 → target l base sup i ≡ data_at l (index_of i)
  at_3 t =
      run_3 t
      ∙ sym (overwrite_zero (word_at (page_table_run l) i))
      ∙ single 3 (l2_slot l.data_ipa_base) (table_to l.l3_data_pa) i 0 t (names_some l.l3_data_pa)

  -- past the last table
  pub at_none : table_count < table_of i → target l base sup i ≡ 0
  unfolding upper_runs leaf_runs stored
  at_none h = of_table (table_of i) refl ∙ ap (λ rs. stored rs i 0) (none_past (runs_of l base sup) (table_of i) h refl)
