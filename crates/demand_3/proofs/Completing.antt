-- An update to an accepted source goes through: each of its steps stores, in order, from whatever words an arena holds.
use Prim.Native.Nat.{ℕ, zero, suc, ◌+◌, ◌≤◌, ◌<◌}
use mathlib.Core.Bool.{Bool, true, false}
use mathlib.Core.List.{List, [], ◌∷◌, ◌++◌, foldl}
use mathlib.Core.Option.{some}
use mathlib.Core.Path.{◌≡◌, refl, sym, ap, subst, ◌∙◌}
use native.Mathlib.Omega.{arith}
use lib.Dec.{eqb}
use lib.ListN.{length, take, length-set}
use lib.Seq.{take-length}
use Rattle.accepted_facts.proofs.Guarded.{arena_let_by}
use Rattle.fields.specs.Named.{pick}
use Rattle.layout.specs.Size.{board_limit, arena_length}
use Rattle.refusal.specs.Table.{Outcome, accepted, refused}
use Rattle.update.proofs.Rows.{stored}
use Rattle.update.specs.Step.{step_count}
use Rattle.demand_3.specs.Completing.{steps_from, full_update, AcceptedSource, continued, UpdatesComplete}
use Rattle.demand_3.specs.Cuts.{Kind, full, Step, Cut, start, cut_after, EachStep, In, begun, to_begin}
use Rattle.demand_3.specs.Cuts.{answered, words_left, opened, gone_on, storing, counted, stepped}
use Rattle.demand_3.specs.Demand3.{begins, goes_on, Fair, Premises}
use Rattle.demand_3.specs.Readers.{EachRead}
use Rattle.demand_3.specs.Sources.{Source}
use Rattle.demand_3.proofs.Belonging.{full_same, beginning, going_on, cut_in}
use Rattle.demand_3.proofs.Demand3.{demand_3}

-- no step changes the length
left_length : (q : Kind) (o : Outcome) (c : Cut) (s : Step) → length (words_left q o c s) ≡ length c.words
left_length (full n) accepted c s = length-set c.words _ _
left_length (full n) (refused r) c s = refl

same_length : (c : Cut) (s : Step) → length (stepped c s).words ≡ length c.words
unfolding stepped
same_length c s = go (answered c s)
  where
    by_number : (b : Bool) → length (pick b (opened c s) (gone_on c s)).words ≡ length c.words
    by_number true = left_length s.kind accepted c s
    by_number false = left_length s.kind accepted c s

    by_kind : (q : Kind) → length (storing q c s).words ≡ length c.words
    by_kind (full n) = by_number (eqb n 0)

    go : (o : Outcome) → length (counted o c s).words ≡ length c.words
    go accepted = by_kind s.kind
    go (refused r) = left_length s.kind (refused r) c s

same_lengths : (steps : List Step) (c : Cut) → length (foldl stepped c steps).words ≡ length c.words
same_lengths [] c = refl
same_lengths (s ∷ steps) c = same_lengths steps (stepped c s) ∙ same_length c s

-- of each step of two lists, one after the other
each_append :
    (P : Cut → Step → Type 0) (xs ys : List Step) (c : Cut) →
    EachStep P c xs → EachStep P (foldl stepped c xs) ys → EachStep P c (xs ++ ys)
each_append P [] ys c p q = q
each_append P (x ∷ xs) ys c p q = (p.0, each_append P xs ys (stepped c x) p.1 q)

each_map :
    (P Q : Cut → Step → Type 0) → ((c : Cut) (s : Step) → P c s → Q c s) →
    (steps : List Step) (c : Cut) → EachStep P c steps → EachStep Q c steps
each_map P Q f [] c p = tt
each_map P Q f (s ∷ steps) c p = (f c s p.0, each_map P Q f steps (stepped c s) p.1)

module _ (tables : List ℕ) (s : Source) (base sup : List ℕ) (ok : AcceptedSource tables s base sup) where
  abbrev step : ℕ → Step
  step n = record { kind = full n; source = s; base = base; sup = sup }

  abbrev Stores : Cut → Step → Type 0
  Stores c t = (answered c t ≡ accepted) × Fair tables c t

  stores : (n : ℕ) (c : Cut) → n < step_count → length c.words ≡ arena_length → answered c (step n) ≡ accepted
  unfolding answered
  stores n c few long =
      stored s.layout base sup n c.words
      (record { guarded = arena_let_by board_limit c.words base sup s.layout long ok.lets_by; number = few })

  -- in the update that found these words, before step n
  record Going (found : List ℕ) (c : Cut) (n : ℕ) : Type 0 where
    long : length c.words ≡ arena_length
    old : c.old ≡ found
    source : c.source ≡ some s
    k : c.k ≡ n

  first_step : (c : Cut) → length c.words ≡ arena_length → Going c.words (stepped c (step 0)) 1
  first_step c long =
      let same = beginning c (step 0) (stores 0 c (omega arith) long) refl in
      record {
        long = same_length c (step 0) ∙ long;
        old = ap (λ (d : Cut). d.old) same;
        source = ap (λ (d : Cut). d.source) same;
        k = ap (λ (d : Cut). d.k) same;
      }

  next_step : (old : List ℕ) (c : Cut) (n : ℕ) → 0 < n → n < step_count → Going old c n → Going old (stepped c (step n)) (suc n)
  next_step old c n pos few g =
      let same = going_on c (step n) (stores n c few g.long) (λ z. omega (arith, full_same z, pos)) in
      record {
        long = same_length c (step n) ∙ g.long;
        old = ap (λ (d : Cut). d.old) same ∙ g.old;
        source = ap (λ (d : Cut). d.source) same ∙ g.source;
        k = ap (λ (d : Cut). d.k) same ∙ ap suc g.k;
      }

  module _ (old : List ℕ) where
    goes :
        (count n : ℕ) (c : Cut) → 0 < n → n + count ≡ step_count → Going old c n →
        EachStep Stores c (steps_from s base sup n count)
    unfolding steps_from
    goes zero n c pos sum g = tt
    goes (suc count) n c pos sum g =
        let few : n < step_count = omega (arith, sum) in (
          (
            stores n c few g.long,
            record { maps = ok.maps; same_tables = ok.same_tables; in_order = goes_on (ap full (sym g.k)) g.source },
          ),
          goes count (suc n) (stepped c (step n)) (omega arith) (omega (arith, sum)) (next_step old c n pos few g),
        )

    reached :
        (m count n : ℕ) (c : Cut) → 0 < n → n + count ≡ step_count → m ≤ count → Going old c n →
        Going old (foldl stepped c (take m (steps_from s base sup n count))) (n + m)
    unfolding steps_from
    reached zero count n c pos sum h g = let e : n ≡ n + 0 = omega arith in subst (Going old c) e g
    reached (suc m) zero n c pos sum h g = absurd (omega (arith, h))
    reached (suc m) (suc count) n c pos sum h g =
        let few : n < step_count = omega (arith, sum) in
        let e : suc n + m ≡ n + suc m = omega arith in
        subst (Going old (foldl stepped (stepped c (step n)) (take m (steps_from s base sup (suc n) count)))) e
        (reached m count (suc n) (stepped c (step n)) (omega arith) (omega (arith, sum)) (omega (arith, h)) (next_step old c n pos few g))

  module _ (c : Cut) (long : length c.words ≡ arena_length) where
    all_store : (count : ℕ) → count ≡ step_count → EachStep Stores c (steps_from s base sup 0 count)
    unfolding steps_from
    all_store zero e = tt
    all_store (suc count) e = (
      (stores 0 c (omega arith) long, record { maps = ok.maps; same_tables = ok.same_tables; in_order = begins refl }),
      goes c.words count 1 (stepped c (step 0)) (omega arith) (omega (arith, e)) (first_step c long),
    )

    within :
        (count : ℕ) → count ≡ step_count → (m : ℕ) → m ≤ count →
        In c.words s (foldl stepped c (take m (steps_from s base sup 0 count))) m
    unfolding steps_from
    within count e zero h = to_begin refl
    within zero e (suc m) h = absurd (omega (arith, h))
    within (suc count) e (suc m) h =
        let g = reached c.words m count 1 (stepped c (step 0)) (omega arith) (omega (arith, e)) (omega (arith, h)) (first_step c long) in
        let sum : 1 + m ≡ suc m = omega arith in
        subst (In c.words s (foldl stepped (stepped c (step 0)) (take m (steps_from s base sup 1 count)))) (g.k ∙ sum)
        (begun g.old g.source)

pub updates_complete : UpdatesComplete
updates_complete tables words steps long p s base sup ok =
    record {
      never_refused = each_map _ (λ c t. answered c t ≡ accepted) (λ c t q. q.0) (full_update s base sup) last stored_all;
      premises = p';
      cuts = cuts;
      walk = λ x. (demand_3.walk tables words all p' last.words s (λ r. end) (λ r. step_count) ended x).after_the_last (λ r b. refl);
      manual =
          λ m a x.
          (demand_3.manual m a tables words all p' last.words s (λ r. end) (λ r. step_count) ended x).after_the_last (λ r b. refl);
    }
  where
    last : Cut
    last = cut_after words steps (length steps)

    all : List Step
    all = continued tables words steps s base sup

    end : ℕ
    end = length steps + step_count

    long_last : length last.words ≡ arena_length
    long_last = same_lengths (take (length steps) steps) (start words) ∙ long

    stored_all : EachStep (λ c t. (answered c t ≡ accepted) × Fair tables c t) last (full_update s base sup)
    stored_all = all_store tables s base sup ok last long_last step_count refl

    p' : Premises tables words all
    p' =
        each_append _ steps (full_update s base sup) (start words) p
        (subst
        (λ xs. EachStep (λ c t. answered c t ≡ accepted → Fair tables c t) (foldl stepped (start words) xs) (full_update s base sup))
        (take-length steps)
        (each_map _ (λ c t. answered c t ≡ accepted → Fair tables c t) (λ c t q e. q.1) (full_update s base sup) last stored_all))

    cuts : (n : ℕ) → n ≤ step_count → In last.words s (cut_after words all (length steps + n)) n
    cuts n h =
        subst (λ c. In last.words s c n) (sym (cut_in words steps (full_update s base sup) n))
        (within tables s base sup ok last long_last step_count refl n h)

    ended : EachRead (λ r. In last.words s (cut_after words all end) step_count)
    ended r b = cuts step_count (omega arith)
