-- Where a run has a word, and how runs join.
use Prim.Native.Nat.{ℕ, ◌+◌, ◌-◌, ◌*◌, ◌≤◌, ◌<◌}
use mathlib.Core.Bool.{Bool, true, false, ◌&&◌, false≢true}
use mathlib.Core.List.{List, [], ◌∷◌, ◌++◌}
use mathlib.Core.Path.{◌≡◌, refl, sym, ap, ◌∙◌}
use native.Mathlib.Omega.{arith}
use lib.Dec.{eqb, leb, ltb}
use borrow.Author.Tests.{ltb-true, ltb-false, leb-true, leb-false, eqb-true, lt-ltb, le-ltb, le-leb, lt-leb, eq-eqb}
use Rattle.fields.specs.Named.{pick}
use Rattle.layout.specs.Size.{entries}
use Rattle.arena.specs.Encoded.{Run, run, one, table_of, index_of, word_at, overwrite, stored}

second_false : (a b c : Bool) → b ≡ false → (a && b && c) ≡ false
second_false true true c e = absurd (false≢true (sym e))
second_false true false c e = refl
second_false false b c e = refl

third_false : (a b c : Bool) → c ≡ false → (a && b && c) ≡ false
third_false true true c e = e
third_false true false c e = refl
third_false false b c e = refl

-- no word stands in another table, before the run or past it
module _ (t f n : ℕ) (word : ℕ → ℕ) (i : ℕ) where
  pub other : eqb (table_of i) t ≡ false → word_at (run t f n word) i ≡ 0
  unfolding word_at
  other e = rw e

  pub before : index_of i < f → word_at (run t f n word) i ≡ 0
  unfolding word_at
  before h = ap (λ b. pick b (word (index_of i - f)) 0) (second_false (eqb (table_of i) t) _ _ (lt-leb f (index_of i) h))

  pub past : f + n ≤ index_of i → word_at (run t f n word) i ≡ 0
  unfolding word_at
  past h = ap (λ b. pick b (word (index_of i - f)) 0) (third_false (eqb (table_of i) t) (leb f (index_of i)) _ (le-ltb (index_of i) (f + n) h))

  pub inside : table_of i ≡ t → f ≤ index_of i → index_of i < f + n → word_at (run t f n word) i ≡ word (index_of i - f)
  unfolding word_at
  inside e lo hi = rw (eq-eqb _ _ e, le-leb _ _ lo, lt-ltb _ _ hi)

-- word j of the table with k tables before it
module _ (k j : ℕ) (h : j < entries) where
  pub table_of_lem : table_of (k * entries + j) ≡ 1 + k
  table_of_lem = omega (arith, h)

  pub index_of_lem : index_of (k * entries + j) ≡ j
  index_of_lem = omega (arith, h)

-- a run's word at an index of its table
module _ (j : ℕ) (h : j < entries) (k : ℕ) (r : Run) (t : r.table ≡ 1 + k) where
  pub run_before : j < r.from → word_at r (k * entries + j) ≡ 0
  run_before b = before r.table r.from r.count r.word (k * entries + j) (omega (arith, b, index_of_lem k j h))

  pub run_past : r.from + r.count ≤ j → word_at r (k * entries + j) ≡ 0
  run_past b = past r.table r.from r.count r.word (k * entries + j) (omega (arith, b, index_of_lem k j h))

  pub run_inside : r.from ≤ j → j < r.from + r.count → word_at r (k * entries + j) ≡ r.word (j - r.from)
  run_inside lo hi =
      let e = index_of_lem k j h in
      inside r.table r.from r.count r.word (k * entries + j) (table_of_lem k j h ∙ sym t) (omega (arith, lo, e))
      (omega (arith, hi, e))
      ∙ ap (λ (n : ℕ). r.word (n - r.from)) e

-- a word after a run makes it longer
module _ (t f n : ℕ) (word : ℕ → ℕ) (i old : ℕ) where
  abbrev Grows : Type 0
  Grows =
      overwrite (overwrite old (word_at (run t f n word) i)) (word_at (one t (f + n) (word n)) i)
      ≡ overwrite old (word_at (run t f (n + 1) word) i)

  none : word_at (run t f n word) i ≡ 0 → word_at (one t (f + n) (word n)) i ≡ 0 → word_at (run t f (n + 1) word) i ≡ 0 → Grows
  none a b c = rw (a, b, c)

  first_has : table_of i ≡ t → f ≤ index_of i → index_of i < f + n → Grows
  first_has e lo hi =
      rw (
        inside t f n word i e lo hi,
        before t (f + n) 1 (λ p. word n) i hi,
        inside t f (n + 1) word i e lo (omega (arith, hi)),
      )

  last_has : table_of i ≡ t → f + n ≡ index_of i → Grows
  last_has e at =
      let lo : f ≤ index_of i = omega (arith, at) in
      let hi : index_of i < f + (n + 1) = omega (arith, at) in
      let here : index_of i - f ≡ n = omega (arith, at) in
      rw (
        past t f n word i (omega (arith, at)),
        inside t (f + n) 1 (λ p. word n) i e (omega (arith, at)) (omega (arith, at)),
        inside t f (n + 1) word i e lo hi,
        here,
      )

  pub grows : Grows
  grows = by_table (eqb (table_of i) t) refl
    where
      by_place :
          table_of i ≡ t → (a b c : Bool) →
          leb f (index_of i) ≡ a → ltb (index_of i) (f + n) ≡ b → ltb (f + n) (index_of i) ≡ c → Grows
      by_place e false b c p q r =
          let h = leb-false f (index_of i) p in
          none (before t f n word i h) (before t (f + n) 1 (λ p. word n) i (omega (arith, h))) (before t f (n + 1) word i h)
      by_place e true true c p q r = first_has e (leb-true _ _ p) (ltb-true _ _ q)
      by_place e true false true p q r =
          let h = ltb-true (f + n) (index_of i) r in
          none (past t f n word i (omega (arith, h))) (past t (f + n) 1 (λ p. word n) i (omega (arith, h)))
          (past t f (n + 1) word i (omega (arith, h)))
      by_place e true false false p q r =
          let h = ltb-false (index_of i) (f + n) q in let k = ltb-false (f + n) (index_of i) r in last_has e (omega (arith, h, k))

      by_table : (b : Bool) → eqb (table_of i) t ≡ b → Grows
      by_table true e = by_place (eqb-true _ _ e) (leb f (index_of i)) (ltb (index_of i) (f + n)) (ltb (f + n) (index_of i)) refl refl refl
      by_table false e = none (other t f n word i e) (other t (f + n) 1 (λ p. word n) i e) (other t f (n + 1) word i e)

-- runs in order: the first list, then the second
pub stored_append : (rs ss : List Run) (i old : ℕ) → stored (rs ++ ss) i old ≡ stored ss i (stored rs i old)
unfolding stored
stored_append [] ss i old = refl
stored_append (r ∷ rs) ss i old = stored_append rs ss i (overwrite old (word_at r i))

pub no_word : (t j w i : ℕ) → w ≡ 0 → word_at (one t j w) i ≡ 0
unfolding word_at
no_word t j w i z = rw z (go (eqb (table_of i) t && leb j (index_of i) && ltb (index_of i) (j + 1)))
  where
    go : (b : Bool) → ◌≡◌ {A = ℕ} (pick b 0 0) 0
    go true = refl
    go false = refl

-- a run of no word, and one whose count changes where it has none
pub empty : (t f : ℕ) (word : ℕ → ℕ) (i : ℕ) → word_at (run t f 0 word) i ≡ 0
empty t f word i = go (leb f (index_of i)) refl
  where
    go : (b : Bool) → leb f (index_of i) ≡ b → word_at (run t f 0 word) i ≡ 0
    go true e = let h = leb-true f (index_of i) e in past t f 0 word i (omega (arith, h))
    go false e = before t f 0 word i (leb-false f (index_of i) e)

module _
    (t f n m : ℕ) (word : ℕ → ℕ) (grown : (p : ℕ) → n ≤ p → p < m → word p ≡ 0)
    (shrunk : (p : ℕ) → m ≤ p → p < n → word p ≡ 0)
    (i : ℕ)
  where
    pub resized : word_at (run t f n word) i ≡ word_at (run t f m word) i
    resized = by_table (eqb (table_of i) t) refl
      where
        by_place :
            table_of i ≡ t → f ≤ index_of i → (a b : Bool) →
            ltb (index_of i) (f + n) ≡ a → ltb (index_of i) (f + m) ≡ b → word_at (run t f n word) i ≡ word_at (run t f m word) i
        by_place e lo true true p q =
            inside t f n word i e lo (ltb-true _ _ p) ∙ sym (inside t f m word i e lo (ltb-true _ _ q))
        by_place e lo true false p q =
            let h = ltb-true (index_of i) (f + n) p in
            let k = ltb-false (index_of i) (f + m) q in
            inside t f n word i e lo h
            ∙ shrunk (index_of i - f) (omega (arith, lo, k)) (omega (arith, lo, h))
            ∙ sym (past t f m word i k)
        by_place e lo false true p q =
            let h = ltb-false (index_of i) (f + n) p in
            let k = ltb-true (index_of i) (f + m) q in
            past t f n word i h
            ∙ sym (grown (index_of i - f) (omega (arith, lo, h)) (omega (arith, lo, k)))
            ∙ sym (inside t f m word i e lo k)
        by_place e lo false false p q = past t f n word i (ltb-false _ _ p) ∙ sym (past t f m word i (ltb-false _ _ q))

        by_start : table_of i ≡ t → (b : Bool) → leb f (index_of i) ≡ b → word_at (run t f n word) i ≡ word_at (run t f m word) i
        by_start e true p =
            by_place e (leb-true f (index_of i) p) (ltb (index_of i) (f + n)) (ltb (index_of i) (f + m)) refl refl
        by_start e false p =
            let h = leb-false f (index_of i) p in before t f n word i h ∙ sym (before t f m word i h)

        by_table : (b : Bool) → eqb (table_of i) t ≡ b → word_at (run t f n word) i ≡ word_at (run t f m word) i
        by_table true e = by_start (eqb-true _ _ e) (leb f (index_of i)) refl
        by_table false e = other t f n word i e ∙ sym (other t f m word i e)
