-- Over ordinary words the walk and the manual go the same way, level by level, and read the same leaf.
use Rattle.std.specs.Prelude.{Some, None, Option}
use Rattle.reach.specs.declared.Reach.{Reach}
use Prim.Native.Nat.{ℕ, zero, suc, ◌+◌, ◌%◌}
use mathlib.Core.Bool.{Bool, true, false, ◌||◌, false≢true}
use mathlib.Core.List.{List, [], ◌∷◌}
use mathlib.Core.Path.{◌≡◌, refl, sym, ap, ◌∙◌}
use native.Mathlib.Omega.{arith}
use lib.Dec.{eqb, ltb}
use borrow.Author.Tests.{eq-eqb}
use Rattle.desc.specs.Descriptor.{descriptor_type, block_type, table_type, page_type, page_address, block_address}
use Rattle.descent.specs.Descent.{Words, index, fetch_from, ends_at, leads}
use Rattle.fields.specs.Bits.{bits}
use Rattle.fields.specs.Named.{pick}
use Rattle.layout.specs.Size.{entries, page, block, input_limit}
use Rattle.manual.specs.Agreement.{alike, among, ordinary, WalksAgree}
use Rattle.manual.specs.Translation.{Access, Machine, Translated, fault, allowed}
use Rattle.manual.proofs.Alike.{leaves_agree}
use Rattle.manual.proofs.OneDescent.{from, answer, walk_descent, walk_descends, manual_ends, manual_descent, manual_descends}
use Rattle.walk.specs.Walk.{reading}

-- a table that is among those listed is read whatever stands outside, and its words are the arena's
module _ (words : Words) (named j : ℕ) where
  indifferent : (ts : List ℕ) (from out : ℕ) → among ts named ≡ true
      → fetch_from from out ts words named j ≡ fetch_from from 0 ts words named j
  unfolding fetch_from
  indifferent [] from out h = absurd (let z : ◌≡◌ {A = ℕ} 0 1 = cc in omega arith)
  indifferent (t ∷ ts) from out h = go (eqb t named) refl (λ g. indifferent ts (from + entries) out g)
    where
      go :
          (b : Bool) → eqb t named ≡ b →
          (among ts named ≡ true → fetch_from (from + entries) out ts words named j ≡ fetch_from (from + entries) 0 ts words named j) →
          pick b (words (from + j)) (fetch_from (from + entries) out ts words named j)
          ≡ pick b (words (from + j)) (fetch_from (from + entries) 0 ts words named j)
      go true e later = refl
      go false e later = let f : (false || among ts named) ≡ true = rw e at h in later f

  one_of : (P : ℕ → Type 0) → ((i : ℕ) → P (words i)) → (ts : List ℕ) (from : ℕ) → among ts named ≡ true
      → P (fetch_from from 0 ts words named j)
  unfolding fetch_from
  one_of P all [] from h = absurd (let z : ◌≡◌ {A = ℕ} 0 1 = cc in omega arith)
  one_of P all (t ∷ ts) from h = go (eqb t named) refl (λ g. one_of P all ts (from + entries) g)
    where
      go :
          (b : Bool) → eqb t named ≡ b → (among ts named ≡ true → P (fetch_from (from + entries) 0 ts words named j)) →
          P (pick b (words (from + j)) (fetch_from (from + entries) 0 ts words named j))
      go true e later = all (from + j)
      go false e later = let f : (false || among ts named) ≡ true = rw e at h in later f

module _ (m : Machine) (ts : List ℕ) (a : Access) (x : ℕ) where
  abbrev xnx : Bool
  xnx = m.xnx

  within_page : bits 11 0 x ≡ x % page
  within_page = omega arith

  within_block : bits 20 0 x ≡ x % block
  within_block = omega arith

  -- a word that ends the descent is read alike, by its level
  abbrev Ends : ℕ → ℕ → Type 0
  Ends left d = manual_ends m a x left d ≡ allowed a (reading x (ends_at left d))

  last : (d : ℕ) → ordinary xnx ts 0 d ≡ true → Ends 0 d
  last d o = go (eqb (descriptor_type d) page_type) refl
    where
      go : (b : Bool) → eqb (descriptor_type d) page_type ≡ b → Ends 0 d
      go true e =
          let h : alike xnx d ≡ true = rw e at o in
          rw (e, within_page) (rw e (leaves_agree.enough xnx d h a (page_address d) (x % page)))
      go false e = rw e

  ends : (left d : ℕ) → eqb (descriptor_type d) table_type ≡ false → ordinary xnx ts (suc left) d ≡ true → Ends (suc left) d
  ends zero d n o = go (eqb (descriptor_type d) block_type) refl
    where
      go : (b : Bool) → eqb (descriptor_type d) block_type ≡ b → Ends 1 d
      go true e =
          let h : alike xnx d ≡ true = rw (n, e) at o in
          rw (e, within_block) (rw e (leaves_agree.enough xnx d h a (block_address d) (x % block)))
      go false e = rw e
  ends (suc left) d n o = go (eqb (descriptor_type d) block_type) refl
    where
      go : (b : Bool) → eqb (descriptor_type d) block_type ≡ b → Ends (suc (suc left)) d
      go true e = let h : false ≡ true = rw (n, e) at o in absurd (false≢true h)
      go false e = rw e

  -- one that names a table names one of these
  names : (left d : ℕ) → eqb (descriptor_type d) table_type ≡ true → ordinary xnx ts (suc left) d ≡ true → among ts (page_address d) ≡ true
  names zero d e o = rw e at o
  names (suc left) d e o = rw e at o

  module _ (ws : ℕ → Words) (all : (left i : ℕ) → ordinary xnx ts left (ws left i) ≡ true) where
    abbrev word : ℕ → ℕ → ℕ
    word left named = fetch_from 0 0 ts (ws left) named (index left x)

    -- the word that is read is ordinary, whatever stands outside
    read : (left named out : ℕ) → among ts named ≡ true → fetch_from 0 out ts (ws left) named (index left x) ≡ word left named
    read left named out h = indifferent (ws left) named (index left x) ts 0 out h

    plain : (left named : ℕ) → among ts named ≡ true → ordinary xnx ts left (word left named) ≡ true
    plain left named h = one_of (ws left) named (index left x) (λ d. ordinary xnx ts left d ≡ true) (all left) ts 0 h

    agree :
        (left named : ℕ) → among ts named ≡ true →
        from (manual_descent m a) ts x ws left named ≡ allowed a (from walk_descent ts x ws left named)
    unfolding from
    agree zero named h = rw (read 0 named (m.elsewhere named (index 0 x)) h) (last (word 0 named) (plain 0 named h))
    agree (suc left) named h =
        rw (read (suc left) named (m.elsewhere named (index (suc left) x)) h)
        (go (word (suc left) named) (plain (suc left) named h) (eqb (descriptor_type (word (suc left) named)) table_type) refl (agree left))
      where
        down : ℕ → Translated
        down = from (manual_descent m a) ts x ws left

        below : ℕ → Option Reach
        below = from walk_descent ts x ws left

        go :
            (d : ℕ) → ordinary xnx ts (suc left) d ≡ true → (b : Bool) → eqb (descriptor_type d) table_type ≡ b →
            ((next : ℕ) → among ts next ≡ true → down next ≡ allowed a (below next)) →
            leads (pick b (Some (page_address d)) None) down (manual_ends m a x (suc left) d)
            ≡ allowed a (leads (pick b (Some (page_address d)) None) below (reading x (ends_at (suc left) d)))
        go d o true e on = on (page_address d) (names left d e o)
        go d o false e on = ends left d e o

pub walks_agree : WalksAgree
unfolding answer
walks_agree m l1 others ws all a x =
    manual_descends m a (l1 ∷ others) ws x
    ∙ go (ltb x input_limit)
    ∙ ap (allowed a) (sym (walk_descends (l1 ∷ others) ws x))
  where
    first : among (l1 ∷ others) l1 ≡ true
    first = rw (eq-eqb l1 l1 refl)

    go :
        (b : Bool) →
        pick b (from (manual_descent m a) (l1 ∷ others) x ws 2 l1) fault
        ≡ allowed a (pick b (from walk_descent (l1 ∷ others) x ws 2 l1) None)
    go true = agree m (l1 ∷ others) a x ws all 2 l1 first
    go false = refl
