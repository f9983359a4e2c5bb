-- Demand 3: at each cut the words are the old ones or 0, then the target or 0; and a reader of torn words answers as over whole ones, or
-- nothing.
use Prim.Native.Nat.{ℕ, ◌≤◌, ◌<◌}
use mathlib.Core.Bool.{Bool, true, false}
use mathlib.Core.List.{List}
use mathlib.Core.Logic.{inl, inr}
use mathlib.Core.Path.{◌≡◌, refl, sym, ap, subst, ◌∙◌}
use native.Mathlib.Omega.{arith}
use lib.Dec.{ltb}
use lib.ListN.{length, get_or, get_or-eq_default}
use lib.Seq.{ext_get_or}
use borrow.Author.Tests.{ltb-true, ltb-false}
use Rattle.demand_3.specs.Cuts.{Step, Cut, cut_after, In, begun, to_begin}
use Rattle.demand_3.specs.Demand3.{Premises, Concludes, Demand3}
use Rattle.demand_3.specs.Readers.{EachRead, Reader, the_walk, the_manual}
use Rattle.demand_3.specs.Sources.{Source, maps_of, granted_from}
use Rattle.demand_3.specs.WordByWord.{target_from, word_after, WordByWord}
use Rattle.demand_3.proofs.AfterStores.{zeroed, untouched, stored, from_halfway}
use Rattle.demand_3.proofs.Granting.{base_entries, sup_entries, same_target, same_granted}
use Rattle.demand_3.proofs.Lawful.{Lawful, walk_lawful, manual_lawful}
use Rattle.demand_3.proofs.State.{Begun, Known, known_at}
use Rattle.demand_3.proofs.Torn.{along, towards}
use Rattle.descent.specs.Descent.{Words, words_of}
use Rattle.layout.specs.Size.{arena_length}
use Rattle.manual.proofs.OneDescent.{Either, Torn}
use Rattle.update.specs.Step.{halfway, step_count}

-- past the arena there are zeros
past : (words : List ℕ) (i : ℕ) → length words ≡ arena_length → arena_length ≤ i → get_or words i 0 ≡ 0
past words i e h = get_or-eq_default words 0 (omega arith)

module _ (tables words : List ℕ) (k : ℕ) (old : List ℕ) (s : Source) (b : Begun tables words k old s) where
  torn_old : k ≤ halfway → Torn (words_of words) (words_of old)
  torn_old h i = go (ltb i arena_length) (ltb i k) refl refl
    where
      go : (c d : Bool) → ltb i arena_length ≡ c → ltb i k ≡ d → Either (get_or words i 0) (get_or old i 0) 0
      go false d p q = inr (past words i b.long (ltb-false _ _ p))
      go true true p q = inr (b.word i (ltb-true _ _ p) ∙ zeroed k old s i h (ltb-true _ _ q))
      go true false p q = inl (b.word i (ltb-true _ _ p) ∙ untouched k old s i h (ltb-false _ _ q))

  torn_new : halfway ≤ k → Torn (words_of words) (target_from s)
  torn_new h i = go (ltb i arena_length) refl
    where
      go : (c : Bool) → ltb i arena_length ≡ c → Either (get_or words i 0) (target_from s i) 0
      go false p = inr (past words i b.long (ltb-false _ _ p))
      go true p = let low = ltb-true _ _ p in along (b.word i low) (from_halfway k old s i h low)

  all_zero : k ≡ halfway → (i : ℕ) → get_or words i 0 ≡ 0
  all_zero e i = go (ltb i arena_length) refl
    where
      go : (c : Bool) → ltb i arena_length ≡ c → get_or words i 0 ≡ 0
      go false p = past words i b.long (ltb-false _ _ p)
      go true p =
          let h = ltb-true _ _ p in b.word i h ∙ zeroed k old s i (omega (arith, e)) (omega (arith, e, h))

  all_target : k ≡ step_count → (i : ℕ) → i < arena_length → get_or words i 0 ≡ target_from s i
  all_target e i h = b.word i h ∙ stored k old s i (omega (arith, e)) (omega (arith, e))

  -- the words over which a reader answers as granted
  module _ {A : Type 0} (r : Reader A) (law : Lawful r) (whole : Words) (x : ℕ)
      (is : (i : ℕ) → i < arena_length → whole i ≡ target_from s i) where
    granting : r.gives tables (λ n. whole) x ≡ r.reaching (granted_from s x)
    granting =
        let l = s.layout in
        let pages = base_entries s b.base b.sup b.maps in
        let supers = sup_entries s b.base b.sup b.maps in
        let target-same = same_target l b.base (maps_of s).base b.sup (maps_of s).sup pages supers in
        let granted-same = same_granted l b.base (maps_of s).base b.sup (maps_of s).sup pages supers in
        subst (λ ts. r.gives ts (λ n. whole) x ≡ r.reaching (granted_from s x)) b.same_tables
        (law.grants l b.base b.sup whole x b.guarded (λ i h. is i h ∙ sym (target-same i)) ∙ ap r.reaching (granted-same x))

-- by the cut of a read

module _ (tables old : List ℕ) (source : Source) (c : Cut) (known : Known tables c) where
  read_old : (k : ℕ) → In old source c k → k ≤ halfway → Torn (words_of c.words) (words_of old)
  read_old k (begun e f) h =
      subst (λ o. Torn (words_of c.words) (words_of o)) e
      (torn_old tables c.words c.k c.old source (known source f) h)
  read_old k (to_begin e) h = λ i. inl (ap (λ w. get_or w i 0) e)

  read_begun : (k : ℕ) → In old source c k → halfway ≤ k → Begun tables c.words k old source
  read_begun k (begun e f) h = subst (λ o. Begun tables c.words c.k o source) e (known source f)
  read_begun k (to_begin e) h = absurd (omega (arith, h))

-- two cuts after the last store have the same words
same_words :
    (tables words words' : List ℕ) (k k' : ℕ) (old : List ℕ) (s : Source) →
    Begun tables words k old s → Begun tables words' k' old s → k ≡ step_count → k' ≡ step_count → words ≡ words'
same_words tables words words' k k' old s b b' e e' =
    ext_get_or 0 words words' (b.long ∙ sym b'.long)
    (λ i h.
    let low : i < arena_length = omega (arith, h, b.long) in
    all_target tables words k old s b e i low ∙ sym (all_target tables words' k' old s b' e' i low))

module _
    {A : Type 0} (r : Reader A) (law : Lawful r) (tables words : List ℕ) (steps : List Step) (p : Premises tables words steps)
    (old : List ℕ)
    (source : Source)
    (cut k : ℕ → ℕ)
    (within : EachRead (λ n. In old source (cut_after words steps (cut n)) (k n)))
    (x : ℕ)
  where
    abbrev at : ℕ → List ℕ
    at n = (cut_after words steps (cut n)).words

    torn_up_to : (n : ℕ) → n < 3 → k n ≤ halfway → Torn (words_of (at n)) (words_of old)
    torn_up_to n b h =
        read_old tables old source (cut_after words steps (cut n)) (known_at tables words steps p (cut n)) (k n) (within n b) h

    begun_at : (n : ℕ) → n < 3 → halfway ≤ k n → Begun tables (at n) (k n) old source
    begun_at n b h =
        read_begun tables old source (cut_after words steps (cut n)) (known_at tables words steps p (cut n)) (k n) (within n b) h

    new_or_nothing :
        EachRead (λ n. halfway ≤ k n) →
        Either (r.gives tables (λ n. words_of (at n)) x) (r.reaching (granted_from source x)) r.nothing
    new_or_nothing h =
        towards (granting tables (at 0) (k 0) old source (begun_from 0 (omega arith)) r law (target_from source) x (λ i b. refl))
        (law.torn tables (λ n. words_of (at n)) (target_from source) x
        (λ n b. torn_new tables (at n) (k n) old source (begun_from n b) (h n b)))
      where
        begun_from : (n : ℕ) → n < 3 → Begun tables (at n) (k n) old source
        begun_from n b = begun_at n b (h n b)

    nothing_at_half : EachRead (λ n. k n ≡ halfway) → r.gives tables (λ n. words_of (at n)) x ≡ r.nothing
    nothing_at_half h =
        let e = h 2 (omega arith) in
        let b = begun_at 2 (omega arith) (omega (arith, e)) in
        subst (λ ts. r.gives ts (λ n. words_of (at n)) x ≡ r.nothing) b.same_tables
        (law.zeros _ _ (λ n. words_of (at n)) x (all_zero tables (at 2) (k 2) old source b e))

    granted_at_last :
        EachRead (λ n. k n ≡ step_count) → r.gives tables (λ n. words_of (at n)) x ≡ r.reaching (granted_from source x)
    granted_at_last h =
        law.same tables (λ n. words_of (at n)) (words_of (at 0)) x
        (λ n b. ap words_of (same_words tables (at n) (at 0) (k n) (k 0) old source (at_end n b) (at_end 0 low) (h n b) (h 0 low)))
        ∙ granting tables (at 0) (k 0) old source (at_end 0 low) r law (words_of (at 0)) x
        (all_target tables (at 0) (k 0) old source (at_end 0 low) (h 0 low))
      where
        low : 0 < 3
        low = omega arith

        at_end : (n : ℕ) → n < 3 → Begun tables (at n) (k n) old source
        at_end n b = begun_at n b (omega (arith, h n b))

    pub concludes :
        Concludes k r.nothing (r.gives tables (λ n. words_of (at n)) x) (r.gives tables (λ n. words_of old) x)
        (r.reaching (granted_from source x))
    concludes =
        record {
          up_to_half_way = λ h. law.torn tables (λ n. words_of (at n)) (words_of old) x (λ n b. torn_up_to n b (h n b));
          from_half_way = new_or_nothing;
          at_half_way = nothing_at_half;
          after_the_last = granted_at_last;
        }

pub demand_3 : Demand3
demand_3 = record { walk = concludes the_walk walk_lawful; manual = λ m a. concludes (the_manual m a) (manual_lawful m a) }

pub word_by_word : WordByWord
word_by_word tables words steps p old source n k within i h = go (known_at tables words steps p n) k within
  where
    c : Cut
    c = cut_after words steps n

    go : Known tables c → (k : ℕ) → In old source c k → get_or c.words i 0 ≡ word_after k old source i
    go known k (begun e f) =
        subst (λ o. get_or c.words i 0 ≡ word_after c.k o source i) e ((known source f).word i h)
    go known k (to_begin e) =
        ap (λ (w : List ℕ). get_or w i 0) e ∙ sym (untouched 0 old source i (omega arith) (omega arith))
