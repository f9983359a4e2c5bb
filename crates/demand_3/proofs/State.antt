-- What is known at each cut of an update that has begun, by induction over the steps.
use Prim.Native.Nat.{ℕ, zero, suc, ◌≤◌, ◌<◌}
use mathlib.Core.Bool.{Bool, true, false}
use mathlib.Core.List.{List, [], ◌∷◌, foldl}
use mathlib.Core.Option.{some}
use mathlib.Core.Path.{◌≡◌, refl, sym, ap, subst, ◌∙◌}
use native.Mathlib.Omega.{arith}
use lib.Dec.{eqb}
use lib.ListN.{length, get_or, take, length-set}
use borrow.Author.Tests.{eqb-true, eqb-false}
use Rattle.accepted_facts.proofs.Guarded.{arena_guarded_facts}
use Rattle.accepted_facts.specs.Guarded.{Guarded}
use Rattle.fields.specs.Named.{pick}
use Rattle.layout.specs.Size.{board_limit, arena_length}
use Rattle.refusal.specs.Table.{Outcome, accepted, refused, first}
use Rattle.update.proofs.Rows.{Stores, stores}
use Rattle.update.specs.Step.{step_count}
use Rattle.demand_2.specs.Demand2.{addresses_of}
use Rattle.demand_3.specs.Cuts.{Kind, full, Step, Cut, start, cut_after, EachStep}
use Rattle.demand_3.specs.Cuts.{call_rows, answered, words_left, opened, gone_on, storing, counted, stepped}
use Rattle.demand_3.specs.Demand3.{InOrder, begins, goes_on, Fair, Premises}
use Rattle.demand_3.specs.Sources.{Source, FilledFrom}
use Rattle.demand_3.specs.WordByWord.{word_after}
use Rattle.demand_3.proofs.AfterStores.{untouched, one_more}
use Rattle.demand_3.proofs.Belonging.{full_same, as_found}
use Rattle.demand_3.proofs.Granting.{base_entries, sup_entries, same_target}

pub record Begun (tables words : List ℕ) (k : ℕ) (old : List ℕ) (s : Source) : Type 0 where
  pub long : length words ≡ arena_length
  pub few : k ≤ step_count
  pub word : (i : ℕ) → i < arena_length → get_or words i 0 ≡ word_after k old s i
  pub same_tables : addresses_of s.layout ≡ tables
  pub base : List ℕ
  pub sup : List ℕ
  pub guarded : Guarded board_limit base sup s.layout
  pub maps : FilledFrom s base sup

abbrev pub Known : List ℕ → Cut → Type 0
Known tables c = (s : Source) → c.source ≡ some s → Begun tables c.words c.k c.old s

module _ (tables : List ℕ) (c : Cut) (s : Step) (a : answered c s ≡ accepted) (f : Fair tables c s) where
  lets_by : (n : ℕ) → s.kind ≡ full n → Stores s.source.layout s.base s.sup n c.words
  unfolding answered
  lets_by n e =
      stores s.source.layout s.base s.sup n c.words (sym (ap (λ (q : Kind). first (call_rows q s c.words)) e) ∙ a)

  -- the cut after a store that is the k-th of an update
  module _
      (k : ℕ) (old : List ℕ) (is : s.kind ≡ full k)
      (here : (i : ℕ) → i < arena_length → get_or c.words i 0 ≡ word_after k old s.source i)
    where
      stored : Begun tables (words_left s.kind accepted c s) (suc k) old s.source
      stored =
          let let_by = lets_by k is in
          let facts = arena_guarded_facts board_limit c.words s.base s.sup s.source.layout let_by.guarded in
          let pages = base_entries s.source s.base s.sup f.maps in
          let supers = sup_entries s.source s.base s.sup f.maps in
          let same = same_target s.source.layout s.base _ s.sup _ pages supers in
          subst (λ (q : Kind). Begun tables (words_left q accepted c s) (suc k) old s.source) (sym is)
          (record {
            long = length-set c.words _ _ ∙ facts.0;
            few = let_by.number;
            word = one_more k old s.source let_by.number s.base s.sup c.words facts.0 same here;
            same_tables = f.same_tables;
            base = s.base;
            sup = s.sup;
            guarded = facts.1;
            maps = f.maps;
          })

some_same : {a b : Source} → some a ≡ some b → a ≡ b
some_same e = cc

-- a step keeps what is known
module _ (tables : List ℕ) (c : Cut) (s : Step) (known : Known tables c) (fair : answered c s ≡ accepted → Fair tables c s) where
  begun_by : answered c s ≡ accepted → s.kind ≡ full 0 → Known tables (opened c s)
  begun_by a z t e =
      subst (Begun tables (words_left s.kind accepted c s) 1 c.words) (some_same e)
      (stored tables c s a (fair a) 0 c.words z
      (λ i h. sym (untouched 0 c.words s.source i (omega arith) (omega arith))))

  gone_on_lem : answered c s ≡ accepted → (s.kind ≡ full 0 → ⊥) → InOrder c s → Known tables (gone_on c s)
  gone_on_lem a ne (begins z) t e = absurd (ne z)
  gone_on_lem a ne (goes_on is source) t e =
      let now = known s.source source in
      subst (Begun tables (words_left s.kind accepted c s) (suc c.k) c.old) (some_same (sym source ∙ e))
      (stored tables c s a (fair a) c.k c.old is now.word)

  pub known_after : Known tables (stepped c s)
  unfolding stepped
  known_after = go (answered c s) refl
    where
      by_number :
          (n : ℕ) (b : Bool) → answered c s ≡ accepted → s.kind ≡ full n → eqb n 0 ≡ b →
          Known tables (pick b (opened c s) (gone_on c s))
      by_number n true a is e = begun_by a (is ∙ ap full (eqb-true n 0 e))
      by_number n false a is e = gone_on_lem a (λ z. eqb-false n 0 e (full_same (sym is ∙ z))) (fair a).in_order

      by_kind : (q : Kind) → answered c s ≡ accepted → s.kind ≡ q → Known tables (storing q c s)
      by_kind (full n) a is = by_number n (eqb n 0) a is refl

      go : (o : Outcome) → answered c s ≡ o → Known tables (counted o c s)
      go accepted a = by_kind s.kind a refl
      go (refused r) a = subst (Known tables) (sym (as_found c s r)) known

pub known_from :
    (tables : List ℕ) (steps : List Step) (c : Cut) → Known tables c → EachStep (λ d s. answered d s ≡ accepted → Fair tables d s) c steps →
    (n : ℕ) → Known tables (foldl stepped c (take n steps))
known_from tables steps c known p zero = known
known_from tables [] c known p (suc n) = known
known_from tables (s ∷ steps) c known p (suc n) =
    known_from tables steps (stepped c s) (known_after tables c s known p.0) p.1 n

pub known_at :
    (tables words : List ℕ) (steps : List Step) → Premises tables words steps →
    (n : ℕ) → Known tables (cut_after words steps n)
known_at tables words steps p n = known_from tables steps (start words) (λ s e. absurd (let z : ◌≡◌ {A = ℕ} 0 1 = cc in omega arith)) p n
