-- The walk and the manual's translation are one descent, with words read in two ways; and what holds of every such descent.
use Rattle.std.specs.Prelude.{Option, Some, None}
use Rattle.reach.specs.declared.Reach.{Reach}
use Prim.Native.Nat.{ℕ, zero, suc, ◌+◌, ◌*◌, ◌^◌, ◌<◌}
use mathlib.Core.Bool.{Bool, true, false}
use mathlib.Core.List.{List, [], ◌∷◌}
use mathlib.Core.Logic.{◌⊎◌, inl, inr}
use mathlib.Core.Path.{◌≡◌, refl, sym, ap, ◌∙◌}
use native.Mathlib.Omega.{arith}
use lib.Dec.{eqb, ltb}
use lib.ListN.{get_or}
use borrow.Author.Tests.{eq-eqb}
use Rattle.decode.specs.Decoded.{decoded_table}
use Rattle.desc.specs.Descriptor.{descriptor_type, block_type, table_type, page_type, page_address, block_address}
use Rattle.descent.specs.Descent.{Words, index, fetch_from, fetch, ends_at, next_table, leads, descend}
use Rattle.descent.specs.declared.Stop.TheVariants.{Stopped}
use Rattle.fields.specs.Bits.{bits}
use Rattle.fields.specs.Named.{pick}
use Rattle.layout.specs.Size.{entries, input_limit}
use Rattle.manual.specs.Translation.{Machine, Access, Translated, fault, leaf, lookup, level1, level2, level3, translation}
use Rattle.walk.specs.Walk.{reading, walk_of}

-- how words are read: what stands outside the arena, by the table named and the index; the table that a word leads to; and the answer where
-- it leads to none, by the address and the levels left. 0 leads to none, and says nothing
pub record Descent (A : Type 0) : Type 0 where
  pub outside : ℕ → ℕ → ℕ
  pub next : ℕ → Option ℕ
  pub ends : ℕ → ℕ → ℕ → A
  pub nothing : A
  pub zero_leads : next 0 ≡ None
  pub zero_ends : (x left : ℕ) → ends x left 0 ≡ nothing

module _ {A : Type 0} (r : Descent A) (x : ℕ) where
  -- what a word says, with levels below that answer by the table named
  abbrev pub says : ℕ → (ℕ → A) → ℕ → A
  says left down d = leads (r.next d) down (r.ends x (suc left) d)

  blank : (left : ℕ) (down : ℕ → A) → says left down 0 ≡ r.nothing
  blank left down = ap (λ t. leads t down (r.ends x (suc left) 0)) r.zero_leads ∙ r.zero_ends x (suc left)

module _ {A : Type 0} (r : Descent A) (tables : List ℕ) (x : ℕ) where
  abbrev pub word_at : (ℕ → Words) → ℕ → ℕ → ℕ
  word_at ws left named = fetch (r.outside named (index left x)) tables (ws left) named (index left x)

  -- from the table named, with so many levels left below its own
  unfoldable pub from : (ℕ → Words) → ℕ → ℕ → A
  from ws zero named = r.ends x 0 (word_at ws 0 named)
  from ws (suc left) named = says r x left (from ws left) (word_at ws (suc left) named)

  unfoldable pub answer : (ℕ → Words) → A
  answer ws = pick (ltb x input_limit) (from ws 2 (get_or tables 0 0)) r.nothing

-- the walk

pub zero_stops : (x left : ℕ) → reading x (ends_at left 0) ≡ None
zero_stops x zero = refl
zero_stops x (suc zero) = refl
zero_stops x (suc (suc left)) = refl

abbrev pub walk_descent : Descent (Option Reach)
walk_descent =
    record {
      outside = λ named j. 0;
      next = next_table;
      ends = λ x left d. reading x (ends_at left d);
      nothing = None;
      zero_leads = refl;
      zero_ends = zero_stops;
    }

module _ (tables : List ℕ) (ws : ℕ → Words) (x : ℕ) where
  walk_from : (left named : ℕ) → reading x (descend tables ws left named x) ≡ from walk_descent tables x ws left named
  unfolding descend from
  walk_from zero named = refl
  walk_from (suc left) named =
      let d = word_at walk_descent tables x ws (suc left) named in go d (next_table d) (walk_from left)
    where
      go :
          (d : ℕ) (t : Option ℕ) →
          ((next : ℕ) → reading x (descend tables ws left next x) ≡ from walk_descent tables x ws left next) →
          reading x (leads t (λ next. descend tables ws left next x) (ends_at (suc left) d))
          ≡ leads t (from walk_descent tables x ws left) (reading x (ends_at (suc left) d))
      go d (Some next) below = below next
      go d None below = refl

  pub walk_descends : walk_of tables ws x ≡ answer walk_descent tables x ws
  unfolding walk_of answer
  walk_descends = go (ltb x input_limit)
    where
      go :
          (low : Bool) →
          reading x (pick low (descend tables ws 2 (get_or tables 0 0) x) (Stopped 0))
          ≡ pick low (from walk_descent tables x ws 2 (get_or tables 0 0)) None
      go true = walk_from 2 (get_or tables 0 0)
      go false = refl

-- the manual's translation

module _ (m : Machine) (a : Access) where
  abbrev leaf_at : ℕ → ℕ → ℕ → Translated
  leaf_at type output d = pick (eqb (descriptor_type d) type) (leaf m.xnx a output d) fault

  abbrev pub manual_ends : ℕ → ℕ → ℕ → Translated
  manual_ends x zero d = leaf_at page_type (page_address d + bits 11 0 x) d
  manual_ends x (suc zero) d = leaf_at block_type (block_address d + bits 20 0 x) d
  manual_ends x (suc (suc left)) d = leaf_at block_type (bits 47 30 d * 2 ^ 30 + bits 29 0 x) d

  pub zero_faults : (x left : ℕ) → manual_ends x left 0 ≡ fault
  zero_faults x zero = refl
  zero_faults x (suc zero) = refl
  zero_faults x (suc (suc left)) = refl

  abbrev pub manual_descent : Descent Translated
  manual_descent =
      record {
        outside = m.elsewhere;
        next = decoded_table;
        ends = manual_ends;
        nothing = fault;
        zero_leads = refl;
        zero_ends = zero_faults;
      }

  module _ (tables : List ℕ) (ws : ℕ → Words) (x : ℕ) where
    onward :
        (d : ℕ) (here : Translated) (down below : ℕ → Translated) → ((next : ℕ) → down next ≡ below next) →
        pick (eqb (descriptor_type d) table_type) (down (page_address d)) here ≡ leads (decoded_table d) below here
    onward d here down below same = go (eqb (descriptor_type d) table_type)
      where
        go : (b : Bool) → pick b (down (page_address d)) here ≡ leads (pick b (Some (page_address d)) None) below here
        go true = same (page_address d)
        go false = refl

    manual_3 : (named : ℕ) → level3 m tables ws a x named ≡ from manual_descent tables x ws 0 named
    unfolding level3 from
    manual_3 named = refl

    manual_2 : (named : ℕ) → level2 m tables ws a x named ≡ from manual_descent tables x ws 1 named
    unfolding level2 from
    manual_2 named =
        let d = lookup m tables ws a x 1 named in
        onward d (manual_ends x 1 d) (level3 m tables ws a x) (from manual_descent tables x ws 0) manual_3

    manual_1 : (named : ℕ) → level1 m tables ws a x named ≡ from manual_descent tables x ws 2 named
    unfolding level1 from
    manual_1 named =
        let d = lookup m tables ws a x 2 named in
        onward d (manual_ends x 2 d) (level2 m tables ws a x) (from manual_descent tables x ws 1) manual_2

    pub manual_descends : translation m tables ws a x ≡ answer manual_descent tables x ws
    unfolding translation answer
    manual_descends = ap (λ t. pick (ltb x input_limit) t fault) (manual_1 (get_or tables 0 0))

-- a value is this one, or that; each word is the whole one or 0
abbrev pub Either : {A : Type 0} → A → A → A → Type 0
Either a this that = (a ≡ this) ⊎ (a ≡ that)

abbrev pub Torn : Words → Words → Type 0
Torn w whole = (i : ℕ) → Either (w i) (whole i) 0

fetch_torn :
    (from outside : ℕ) (tables : List ℕ) (w whole : Words) (named j : ℕ) → Torn w whole →
    Either (fetch_from from outside tables w named j) (fetch_from from outside tables whole named j) 0
unfolding fetch_from
fetch_torn from outside [] w whole named j t = inl refl
fetch_torn from outside (pa ∷ tables) w whole named j t =
    go (eqb pa named) (fetch_torn (from + entries) outside tables w whole named j t)
  where
    go : {a b : ℕ} (here : Bool) → Either a b 0 → Either (pick here (w (from + j)) a) (pick here (whole (from + j)) b) 0
    go true e = t (from + j)
    go false e = e

-- level 1 is read from the first table
fetch_first : (outside l1 : ℕ) (others : List ℕ) (w : Words) (j : ℕ) → fetch outside (l1 ∷ others) w l1 j ≡ w (0 + j)
unfolding fetch_from
fetch_first outside l1 others w j = rw (eq-eqb l1 l1 refl)

module _ {A : Type 0} (r : Descent A) (tables : List ℕ) (x : ℕ) (ws vs : ℕ → Words) where
  abbrev word : ℕ → ℕ → ℕ
  word = word_at r tables x ws

  abbrev word' : ℕ → ℕ → ℕ
  word' = word_at r tables x vs

  -- every word that the descent over ws reads is that of vs
  abbrev pub PathAgrees : ℕ → ℕ → Type 0
  PathAgrees zero named = word 0 named ≡ word' 0 named
  PathAgrees (suc left) named =
      (word (suc left) named ≡ word' (suc left) named)
      × ((next : ℕ) → r.next (word (suc left) named) ≡ Some next → PathAgrees left next)

  keeps_from : (left named : ℕ) → PathAgrees left named → from r tables x ws left named ≡ from r tables x vs left named
  unfolding from
  keeps_from zero named e = ap (r.ends x 0) e
  keeps_from (suc left) named p =
      go (r.next (word (suc left) named)) refl (λ next e. keeps_from left next (p.1 next e))
      ∙ ap (says r x left (from r tables x vs left)) p.0
    where
      go :
          (t : Option ℕ) → r.next (word (suc left) named) ≡ t →
          ((next : ℕ) → r.next (word (suc left) named) ≡ Some next → from r tables x ws left next ≡ from r tables x vs left next) →
          leads t (from r tables x ws left) (r.ends x (suc left) (word (suc left) named))
          ≡ leads t (from r tables x vs left) (r.ends x (suc left) (word (suc left) named))
      go (Some next) e below = below next e
      go None e below = refl

  pub keeps : PathAgrees 2 (get_or tables 0 0) → answer r tables x ws ≡ answer r tables x vs
  unfolding answer
  keeps p = ap (λ a. pick (ltb x input_limit) a r.nothing) (keeps_from 2 (get_or tables 0 0) p)

  agrees : (left named : ℕ) → ((n : ℕ) → n < suc left → ws n ≡ vs n) → PathAgrees left named
  agrees zero named e = ap (λ (w : Words). word_at r tables x (λ n. w) 0 named) (e 0 (omega arith))
  agrees (suc left) named e = (
    ap (λ (w : Words). word_at r tables x (λ n. w) (suc left) named) (e (suc left) (omega arith)),
    λ next p. agrees left next (λ n h. e n (omega arith)),
  )

  pub same : ((n : ℕ) → n < 3 → ws n ≡ vs n) → answer r tables x ws ≡ answer r tables x vs
  same e = keeps (agrees 2 (get_or tables 0 0) e)

  -- the path over ws reads a word that is 0 in vs; up to there they agree
  abbrev pub PathBreaks : ℕ → ℕ → Type 0
  PathBreaks zero named = word' 0 named ≡ 0
  PathBreaks (suc left) named =
      (word' (suc left) named ≡ 0)
      ⊎ ((word (suc left) named ≡ word' (suc left) named)
      × ((next : ℕ) × ((r.next (word (suc left) named) ≡ Some next) × PathBreaks left next)))

  broken_from : (left named : ℕ) → PathBreaks left named → from r tables x vs left named ≡ r.nothing
  unfolding from
  broken_from zero named e = ap (r.ends x 0) e ∙ r.zero_ends x 0
  broken_from (suc left) named (inl e) =
      ap (says r x left (from r tables x vs left)) e ∙ blank r x left (from r tables x vs left)
  broken_from (suc left) named (inr b) =
      ap (says r x left (from r tables x vs left)) (sym b.0)
      ∙ ap (λ t. leads t (from r tables x vs left) (r.ends x (suc left) (word (suc left) named))) b.1.1.0
      ∙ broken_from left b.1.0 b.1.1.1

  pub broken : PathBreaks 2 (get_or tables 0 0) → answer r tables x vs ≡ r.nothing
  unfolding answer
  broken b = go (ltb x input_limit) (broken_from 2 (get_or tables 0 0) b)
    where
      go : {a : A} (low : Bool) → a ≡ r.nothing → pick low a r.nothing ≡ r.nothing
      go true e = e
      go false e = refl

module _ {A : Type 0} (r : Descent A) (x : ℕ) where
  -- zeros in the first table
  pub zeros :
      (l1 : ℕ) (others : List ℕ) (ws : ℕ → Words) → ((i : ℕ) → ws 2 i ≡ 0) → answer r (l1 ∷ others) x ws ≡ r.nothing
  zeros l1 others ws z =
      broken r (l1 ∷ others) x ws ws
      (inl (fetch_first (r.outside l1 (index 2 x)) l1 others (ws 2) (index 2 x) ∙ z (0 + index 2 x)))

  module _ (tables : List ℕ) (ws : ℕ → Words) (whole : Words) where
    torn_from :
        (left named : ℕ) → ((n : ℕ) → n < suc left → Torn (ws n) whole) →
        Either (from r tables x ws left named) (from r tables x (λ n. whole) left named) r.nothing
    unfolding from
    torn_from zero named t =
        go (fetch_torn 0 (r.outside named (index 0 x)) tables (ws 0) whole named (index 0 x) (t 0 (omega arith)))
      where
        go : {a b : ℕ} → Either a b 0 → Either (r.ends x 0 a) (r.ends x 0 b) r.nothing
        go (inl e) = inl (ap (r.ends x 0) e)
        go (inr e) = inr (ap (r.ends x 0) e ∙ r.zero_ends x 0)
    torn_from (suc left) named t =
        let j = index (suc left) x in
        go (fetch_torn 0 (r.outside named j) tables (ws (suc left)) whole named j (t (suc left) (omega arith)))
        (λ next. torn_from left next (λ n h. t n (omega arith)))
      where
        down : ℕ → A
        down next = from r tables x ws left next

        down_whole : ℕ → A
        down_whole next = from r tables x (λ n. whole) left next

        led :
            (t : Option ℕ) (here : A) → ((next : ℕ) → Either (down next) (down_whole next) r.nothing) →
            Either (leads t down here) (leads t down_whole here) r.nothing
        led (Some next) here below = below next
        led None here below = inl refl

        go :
            {a b : ℕ} → Either a b 0 → ((next : ℕ) → Either (down next) (down_whole next) r.nothing) →
            Either (says r x left down a) (says r x left down_whole b) r.nothing
        go {b = b} (inl e) below = rw e (led (r.next b) (r.ends x (suc left) b) below)
        go (inr e) below = inr (rw e (blank r x left down))

    pub torn :
        ((n : ℕ) → n < 3 → Torn (ws n) whole) →
        Either (answer r tables x ws) (answer r tables x (λ n. whole)) r.nothing
    unfolding answer
    torn t = go (ltb x input_limit) (torn_from 2 (get_or tables 0 0) t)
      where
        go : {a b : A} (low : Bool) → Either a b r.nothing → Either (pick low a r.nothing) (pick low b r.nothing) r.nothing
        go true e = e
        go false e = inl refl
