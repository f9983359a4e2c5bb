-- What is seen along a path is seen over any words that agree along it.
use Rattle.std.specs.Prelude.{Option}
use Rattle.reach.specs.declared.Reach.{Reach}
use Prim.Native.Nat.{ℕ, suc, ◌+◌, ◌*◌, ◌<◌}
use mathlib.Core.Bool.{Bool, true, false}
use mathlib.Core.List.{List, [], ◌∷◌}
use mathlib.Core.Path.{◌≡◌, refl, ap, ◌∙◌}
use native.Mathlib.Omega.{arith}
use lib.Dec.{eqb}
use lib.ListN.{length, get_or}
use Rattle.demand_2.proofs.Seen.{Names-table, Finds, Seen, blank1, blank2, blank3, block2, page3}
use Rattle.descent.specs.Descent.{Words, index, fetch_from, next_table}
use Rattle.descent.specs.Path.{word_read, AgreesFrom}
use Rattle.fields.specs.Named.{pick}
use Rattle.layout.specs.Size.{entries}

module _ (words others : Words) (named j : ℕ) where
  -- words that are read alike are so whatever stands outside
  whatever :
      (ts : List ℕ) (from out : ℕ) → fetch_from from 0 ts words named j ≡ fetch_from from 0 ts others named j →
      fetch_from from out ts words named j ≡ fetch_from from out ts others named j
  unfolding fetch_from
  whatever [] from out e = refl
  whatever (t ∷ ts) from out e = go (eqb t named) e (whatever ts (from + entries) out)
    where
      go :
          {a b : ℕ} (here : Bool) →
          pick here (words (from + j)) a ≡ pick here (others (from + j)) b →
          (a ≡ b → fetch_from (from + entries) out ts words named j ≡ fetch_from (from + entries) out ts others named j) →
          pick here (words (from + j)) (fetch_from (from + entries) out ts words named j)
          ≡ pick here (others (from + j)) (fetch_from (from + entries) out ts others named j)
      go true f later = f
      go false f later = later f

  -- as where all words of the tables are equal
  everywhere :
      (ts : List ℕ) (from : ℕ) → j < entries → ((i : ℕ) → i < from + length ts * entries → words i ≡ others i) →
      fetch_from from 0 ts words named j ≡ fetch_from from 0 ts others named j
  unfolding fetch_from
  everywhere [] from h same = refl
  everywhere (t ∷ ts) from h same =
      let here = same (from + j) (omega (arith, h)) in
      let later = everywhere ts (from + entries) h (λ i less. same i (omega (arith, less))) in rw (here, later)

module _ (tables : List ℕ) (words others : Words) (x : ℕ) where
  -- a read of the other words is one of these
  found :
      (left named d : ℕ) → word_read tables words others x words left named ≡ word_read tables words others x others left named →
      Finds tables others x left named d → Finds tables words x left named d
  found left named d e f out = whatever words others named (index left x) tables 0 out e ∙ f out

  module _ (left named d t : ℕ) (p : AgreesFrom tables words others x (suc left) named) (f : Finds tables others x (suc left) named d)
      (n : Names-table d t) where
    on : AgreesFrom tables words others x left t
    on = p.1 t (ap next_table (p.0 ∙ f 0) ∙ n.decodes)

  pub seen_along : (r : Option Reach) → AgreesFrom tables words others x 2 (get_or tables 0 0) → Seen tables others x r → Seen tables words x r
  seen_along r p (blank1 f) = blank1 (found 2 _ 0 p.0 f)
  seen_along r p (blank2 d t f n g) = let q = on 1 _ d t p f n in blank2 d t (found 2 _ d p.0 f) n (found 1 t 0 q.0 g)
  seen_along r p (blank3 d t e u f n g o h) =
      let q = on 1 _ d t p f n in
      blank3 d t e u (found 2 _ d p.0 f) n (found 1 t e q.0 g) o (found 0 u 0 (on 0 t e u q g o) h)
  seen_along r p (block2 d t e pa a f n g b) =
      let q = on 1 _ d t p f n in block2 d t e pa a (found 2 _ d p.0 f) n (found 1 t e q.0 g) b
  seen_along r p (page3 d t e u w pa a f n g o h b) =
      let q = on 1 _ d t p f n in
      page3 d t e u w pa a (found 2 _ d p.0 f) n (found 1 t e q.0 g) o (found 0 u w (on 0 t e u q g o) h) b

  -- words that are equal agree along every path
  module _ (same : (i : ℕ) → i < length tables * entries → words i ≡ others i) where
    at_read : (left named : ℕ) → word_read tables words others x words left named ≡ word_read tables words others x others left named
    at_read left named =
        everywhere words others named (index left x) tables 0 (omega arith) (λ i less. same i (omega (arith, less)))

    pub whole_path : (named : ℕ) → AgreesFrom tables words others x 2 named
    whole_path named = (at_read 2 named, λ next e. (at_read 1 next, λ last f. at_read 0 last))
