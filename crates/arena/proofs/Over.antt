-- How stores of many words are joined.
use Prim.Native.Nat.{ℕ, ◌+◌, ◌-◌, ◌*◌, ◌<◌, ◌≤◌}
use mathlib.Core.Bool.{Bool, true, false}
use mathlib.Core.List.{List, [], ◌∷◌, ◌++◌, map, map-append}
use mathlib.Core.Path.{◌≡◌, refl, sym, ap, ap₂, ◌∙◌}
use native.Mathlib.Numerals.{add-one}
use native.Mathlib.Omega.{arith}
use lib.Dec.{eqb, ltb}
use lib.ListN.{length, get_or, set, take, length-set}
use lib.Seq.{take-suc, get_or-set_same, get_or-set_other}
use borrow.Author.Tests.{eqb-true, eqb-false, ltb-true, ltb-false, ne_eqb}
use Rattle.areas.specs.Area.{no_area}
use Rattle.areas.specs.declared.Area.{Area}
use Rattle.arena.specs.Encoded.{Run, run, one, present_run, table_of, index_of, word_at, overwrite, stored, area_run}
use Rattle.arena.specs.Over.{Over}
use Rattle.arena.proofs.Runs.{other, before, past, inside, grows, stored_append, empty, no_word}
use Rattle.fields.specs.Named.{pick}
use Rattle.layout.specs.Size.{entries}

pub over_then :
    (f g : ℕ → ℕ → ℕ) (xs ys zs : List ℕ) → Over f xs ys → Over g ys zs → Over (λ i old. g i (f i old)) xs zs
over_then f g xs ys zs a b =
    record {
      long = b.long ∙ a.long;
      word = λ i h. b.word i (omega (arith, h, a.long)) ∙ ap (g i) (a.word i h);
    }

pub over_as :
    (f g : ℕ → ℕ → ℕ) (xs ys : List ℕ) → ((i old : ℕ) → i < length xs → f i old ≡ g i old) → Over f xs ys → Over g xs ys
over_as f g xs ys e a = record { long = a.long; word = λ i h. a.word i h ∙ e i (get_or xs i 0) h }

pub over_same : (f : ℕ → ℕ → ℕ) (xs : List ℕ) → ((i old : ℕ) → f i old ≡ old) → Over f xs xs
over_same f xs e = record { long = refl; word = λ i h. sym (e i (get_or xs i 0)) }

pub over_append : (rs ss : List Run) (xs ys zs : List ℕ) → Over (stored rs) xs ys → Over (stored ss) ys zs → Over (stored (rs ++ ss)) xs zs
over_append rs ss xs ys zs a b =
    over_as _ (stored (rs ++ ss)) xs zs (λ i old h. sym (stored_append rs ss i old)) (over_then (stored rs) (stored ss) xs ys zs a b)

-- one run alone

pub over_nothing : (r : Run) (xs : List ℕ) → ((i : ℕ) → word_at r i ≡ 0) → Over (stored (r ∷ [])) xs xs
unfolding stored
over_nothing r xs e = over_same (stored (r ∷ [])) xs (λ i old. ap (overwrite old) (e i))

pub over_run :
    (r s : Run) (xs ys : List ℕ) →
    ((i : ℕ) → word_at r i ≡ word_at s i) → Over (stored (r ∷ [])) xs ys → Over (stored (s ∷ [])) xs ys
unfolding stored
over_run r s xs ys e = over_as (stored (r ∷ [])) (stored (s ∷ [])) xs ys (λ i old h. ap (overwrite old) (e i))

-- a loop over a run: none of it, one word more
pub over_none : (t f : ℕ) (word : ℕ → ℕ) (xs : List ℕ) → Over (stored (run t f 0 word ∷ [])) xs xs
over_none t f word xs = over_nothing (run t f 0 word) xs (empty t f word)

pub over_more :
    (t f n w : ℕ) (word : ℕ → ℕ) (xs ys zs : List ℕ) →
    w ≡ word n →
    Over (stored (run t f n word ∷ [])) xs ys →
    Over (stored (one t (f + n) w ∷ [])) ys zs → Over (stored (run t f (n + 1) word ∷ [])) xs zs
unfolding stored
over_more t f n w word xs ys zs e a b =
    let next = one t (f + n) (word n) in
    let last = over_run (one t (f + n) w) next ys zs (λ i. ap (λ v. word_at (one t (f + n) v) i) e) b in
    over_as _ (stored (run t f (n + 1) word ∷ [])) xs zs (λ i old h. grows t f n word i old)
    (over_then (stored (run t f n word ∷ [])) (stored (next ∷ [])) xs ys zs a last)

-- a single word
pub over_zero : (t j w : ℕ) (xs : List ℕ) → w ≡ 0 → Over (stored (one t j w ∷ [])) xs xs
over_zero t j w xs z = over_nothing (one t j w) xs (λ i. no_word t j w i z)

module _
    (t j w : ℕ) (xs : List ℕ) (named : 0 < t) (within : j < entries) (inside-arena : (t - 1) * entries + j < length xs)
    (some : w ≡ 0 → ⊥)
  where
    abbrev at : ℕ
    at = (t - 1) * entries + j

    here : (i : ℕ) → i ≡ at → stored (one t j w ∷ []) i (get_or xs i 0) ≡ w
    unfolding stored
    here i e =
        let lo : j ≤ index_of i = omega (arith, e, within) in
        let hi : index_of i < j + 1 = omega (arith, e, within) in
        ap (overwrite (get_or xs i 0)) (inside t j 1 (λ p. w) i (omega (arith, e, within, named)) lo hi)
        ∙ ap (λ b. pick b (get_or xs i 0) w) (ne_eqb w 0 some)

    elsewhere : (i : ℕ) → (i ≡ at → ⊥) → word_at (one t j w) i ≡ 0
    elsewhere i ne = by_table (eqb (table_of i) t) refl
      where
        by_place : table_of i ≡ t → (a b : Bool) → ltb (index_of i) j ≡ a → ltb j (index_of i) ≡ b → word_at (one t j w) i ≡ 0
        by_place e true b p q = before t j 1 (λ p. w) i (ltb-true _ _ p)
        by_place e false true p q =
            let h = ltb-true j (index_of i) q in past t j 1 (λ p. w) i (omega (arith, h))
        by_place e false false p q =
            let h = ltb-false (index_of i) j p in let k = ltb-false j (index_of i) q in absurd (ne (omega (arith, h, k, e, named)))

        by_table : (b : Bool) → eqb (table_of i) t ≡ b → word_at (one t j w) i ≡ 0
        by_table true e = by_place (eqb-true (table_of i) t e) (ltb (index_of i) j) (ltb j (index_of i)) refl refl
        by_table false e = other t j 1 (λ p. w) i e

    kept : (i : ℕ) → word_at (one t j w) i ≡ 0 → stored (one t j w ∷ []) i (get_or xs i 0) ≡ get_or xs i 0
    unfolding stored
    kept i e = ap (overwrite (get_or xs i 0)) e

    pub over_one : Over (stored (one t j w ∷ [])) xs (set xs at w)
    over_one = record { long = length-set xs at w; word = word_at_lem }
      where
        word_at_lem : (i : ℕ) → i < length xs → get_or (set xs at w) i 0 ≡ stored (one t j w ∷ []) i (get_or xs i 0)
        word_at_lem i h = go (eqb i at) refl
          where
            go : (b : Bool) → eqb i at ≡ b → get_or (set xs at w) i 0 ≡ stored (one t j w ∷ []) i (get_or xs i 0)
            go true e =
                let q = eqb-true i at e in
                ap (λ (k : ℕ). get_or (set xs at w) k 0) q ∙ get_or-set_same xs at w 0 inside-arena ∙ sym (here i q)
            go false e = let q = eqb-false i at e in get_or-set_other xs at i w 0 q ∙ sym (kept i (elsewhere i q))

-- equal stores

pub over_runs : (rs ss : List Run) (xs ys : List ℕ) → rs ≡ ss → Over (stored rs) xs ys → Over (stored ss) xs ys
over_runs rs ss xs ys e = over_as (stored rs) (stored ss) xs ys (λ i old h. ap (λ r. stored r i old) e)

pub over_from :
    (t f g n : ℕ) (word : ℕ → ℕ) (xs ys : List ℕ) →
    f ≡ g → Over (stored (run t f n word ∷ [])) xs ys → Over (stored (run t g n word ∷ [])) xs ys
over_from t f g n word xs ys e = over_runs (run t f n word ∷ []) (run t g n word ∷ []) xs ys (ap (λ k. run t k n word ∷ []) e)

pub over_placed :
    (t j k w v : ℕ) (xs ys : List ℕ) →
    j ≡ k → w ≡ v → Over (stored (one t j w ∷ [])) xs ys → Over (stored (one t k v ∷ [])) xs ys
over_placed t j k w v xs ys e f = over_runs (one t j w ∷ []) (one t k v ∷ []) xs ys (ap₂ (λ a b. one t a b ∷ []) e f)

-- the words of areas, one more
pub over_area :
    (areas : List Area) (k : ℕ) (xs ys zs : List ℕ) →
    k < length areas →
    Over (stored (map area_run (take k areas))) xs ys →
    Over (stored (area_run (get_or areas k no_area) ∷ [])) ys zs → Over (stored (map area_run (take (k + 1) areas))) xs zs
over_area areas k xs ys zs h a b =
    let next = get_or areas k no_area in
    over_runs (map area_run (take k areas) ++ (area_run next ∷ [])) (map area_run (take (k + 1) areas)) xs zs
    (rw (add-one, take-suc areas k no_area h) (sym (map-append area_run (take k areas) (next ∷ []))))
    (over_append (map area_run (take k areas)) (area_run next ∷ []) xs ys zs a b)

-- a run that is there, or not
pub over_there :
    (there : Bool) (r : Run) (xs ys : List ℕ) →
    there ≡ true → Over (stored (present_run true r ∷ [])) xs ys → Over (stored (present_run there r ∷ [])) xs ys
over_there there r xs ys e = over_runs _ (present_run there r ∷ []) xs ys (ap (λ b. present_run b r ∷ []) (sym e))

pub over_absent : (there : Bool) (r : Run) (xs : List ℕ) → there ≡ false → Over (stored (present_run there r ∷ [])) xs xs
over_absent there r xs e =
    over_runs _ (present_run there r ∷ []) xs xs (ap (λ b. present_run b r ∷ []) (sym e)) (over_none r.table r.from r.word xs)
