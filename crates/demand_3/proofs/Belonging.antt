-- The cuts of an update: refused steps leave the cut as it is, and of the others only number 0 begins one anew.
use Prim.Native.Nat.{ℕ, zero, suc, ◌+◌, ◌≤◌}
use mathlib.Core.List.{List, [], ◌∷◌, ◌++◌, foldl, foldl-append}
use mathlib.Core.Path.{◌≡◌, refl, sym, ap, subst, ◌∙◌}
use native.Mathlib.Omega.{arith}
use lib.ListN.{length, take, length-append}
use lib.Seq.{take-length, take-append-le, take-append-add}
use borrow.Author.Tests.{ne_eqb}
use Rattle.refusal.proofs.None.{refused≢accepted}
use Rattle.refusal.specs.Table.{Row, Outcome, accepted, refused}
use Rattle.demand_3.specs.Belonging.{counting, stores_of, NoneStores, found, Update, all_steps, CutsBelong, BeforeAny}
use Rattle.demand_3.specs.Cuts.{Kind, full, Step, Cut, start, cut_after, EachStep, In, begun, to_begin}
use Rattle.demand_3.specs.Cuts.{answered, words_left, opened, gone_on, storing, counted, stepped}

-- what a step makes of a cut, by its answer and kind

pub full_same : {m n : ℕ} → full m ≡ full n → m ≡ n
full_same e = cc

left_as_found : (q : Kind) (r : Row) (c : Cut) (s : Step) → words_left q (refused r) c s ≡ c.words
left_as_found (full n) r c s = refl

pub as_found : (c : Cut) (s : Step) (r : Row) → counted (refused r) c s ≡ c
as_found c s r =
    ap (λ (w : List ℕ). let d : Cut = record { words = w; k = c.k; old = c.old; source = c.source } in d)
    (left_as_found s.kind r c s)

unchanged : (c : Cut) (s : Step) → (answered c s ≡ accepted → ⊥) → stepped c s ≡ c
unfolding stepped
unchanged c s ne = go (answered c s) refl
  where
    go : (o : Outcome) → answered c s ≡ o → counted o c s ≡ c
    go accepted e = absurd (ne e)
    go (refused r) e = as_found c s r

pub beginning : (c : Cut) (s : Step) → answered c s ≡ accepted → s.kind ≡ full 0 → stepped c s ≡ opened c s
unfolding stepped
beginning c s a z = ap (λ (o : Outcome). counted o c s) a ∙ ap (λ (q : Kind). storing q c s) z

pub going_on : (c : Cut) (s : Step) → answered c s ≡ accepted → (s.kind ≡ full 0 → ⊥) → stepped c s ≡ gone_on c s
unfolding stepped
going_on c s a ne = ap (λ (o : Outcome). counted o c s) a ∙ go s.kind ne
  where
    go : (q : Kind) → (q ≡ full 0 → ⊥) → storing q c s ≡ gone_on c s
    go (full n) other = rw (ne_eqb n 0 (λ z. other (ap full z)))

-- a list that is cut in its second part

pub cut_in :
    (words : List ℕ) (xs ys : List Step) (n : ℕ) →
    cut_after words (xs ++ ys) (length xs + n) ≡ foldl stepped (cut_after words xs (length xs)) (take n ys)
cut_in words xs ys n =
    ap (foldl stepped (start words)) (take-append-add xs ys n)
    ∙ foldl-append stepped (start words) xs (take n ys)
    ∙ ap (λ zs. foldl stepped (foldl stepped (start words) zs) (take n ys)) (sym (take-length xs))

idling : (steps : List Step) (c : Cut) → NoneStores c steps → (n : ℕ) → foldl stepped c (take n steps) ≡ c
idling steps c none zero = refl
idling [] c none (suc n) = refl
idling (s ∷ steps) c none (suc n) =
    let same = unchanged c s none.0 in
    ap (λ d. foldl stepped d (take n steps)) same ∙ idling steps c (subst (λ d. NoneStores d steps) same none.1) n

-- the same update, so many stores on
record On (c d : Cut) (stores : ℕ) : Type 0 where
  old : d.old ≡ c.old
  source : d.source ≡ c.source
  k : d.k ≡ c.k + stores

then : (c d e : Cut) (m n total : ℕ) → On c d m → On d e n → total ≡ m + n → On c e total
then c d e m n total p q sum =
    record { old = q.old ∙ p.old; source = q.source ∙ p.source; k = omega (arith, p.k, q.k, sum) }

onward :
    (steps : List Step) (c : Cut) → EachStep (λ d s. answered d s ≡ accepted → s.kind ≡ full 0 → ⊥) c steps →
    (n : ℕ) → On c (foldl stepped c (take n steps)) (stores_of c (take n steps))
onward steps c alone zero = record { old = refl; source = refl; k = omega arith }
onward [] c alone (suc n) = record { old = refl; source = refl; k = omega arith }
onward (s ∷ steps) c alone (suc n) = go (answered c s) refl (onward steps (stepped c s) alone.1 n)
  where
    end : Cut
    end = foldl stepped (stepped c s) (take n steps)

    m : ℕ
    m = stores_of (stepped c s) (take n steps)

    go : (o : Outcome) → answered c s ≡ o → On (stepped c s) end m → On c end (counting o m)
    go accepted e on =
        then c (stepped c s) end 1 m (suc m)
        (subst (λ d. On c d 1) (sym (going_on c s e (alone.0 e))) (record { old = refl; source = refl; k = omega arith }))
        on
        (omega arith)
    go (refused r) e on =
        then c (stepped c s) end 0 m m
        (subst (λ d. On c d 0) (sym (unchanged c s (λ a. refused≢accepted r (sym e ∙ a))))
        (record { old = refl; source = refl; k = omega arith }))
        on
        (omega arith)

module _ (words : List ℕ) (before idle : List Step) (zeroth : Step) (rest later : List Step)
    (u : Update words before idle zeroth rest) where
  abbrev c₀ : Cut
  c₀ = cut_after words before (length before)

  abbrev c₁ : Cut
  c₁ = found words before idle zeroth rest

  still : c₁ ≡ c₀
  still =
      ap (cut_after words (before ++ idle)) (length-append before idle)
      ∙ cut_in words before idle (length idle)
      ∙ idling idle c₀ u.none_stores (length idle)

  before_it :
      (n : ℕ) → n ≤ length idle →
      In c₁.words zeroth.source (cut_after words (all_steps words before idle zeroth rest later) (length before + n)) 0
  before_it n h =
      let same =
      cut_in words before (idle ++ (zeroth ∷ (rest ++ later))) n
      ∙ ap (foldl stepped c₀) (take-append-le n idle (zeroth ∷ (rest ++ later)) h)
      ∙ idling idle c₀ u.none_stores n
      ∙ sym still in
      to_begin (ap (λ (d : Cut). d.words) same)

  at_since :
      (n : ℕ) → n ≤ length rest →
      cut_after words (all_steps words before idle zeroth rest later) (length before + (length idle + suc n))
      ≡ foldl stepped (stepped c₁ zeroth) (take n rest)
  at_since n h =
      cut_in words before (idle ++ (zeroth ∷ (rest ++ later))) (length idle + suc n)
      ∙ ap (foldl stepped c₀) (take-append-add idle (zeroth ∷ (rest ++ later)) (suc n))
      ∙ foldl-append stepped c₀ idle (zeroth ∷ take n (rest ++ later))
      ∙ ap (λ d. foldl stepped (stepped d zeroth) (take n (rest ++ later)))
      (ap (foldl stepped c₀) (sym (take-length idle)) ∙ idling idle c₀ u.none_stores (length idle) ∙ sym still)
      ∙ ap (foldl stepped (stepped c₁ zeroth)) (take-append-le n rest later h)

  since :
      (n : ℕ) → n ≤ length rest →
      In c₁.words zeroth.source
      (cut_after words (all_steps words before idle zeroth rest later) (length before + (length idle + suc n)))
      (suc (stores_of (stepped c₁ zeroth) (take n rest)))
  since n h =
      let on = onward rest (stepped c₁ zeroth) u.no_other n in
      let new = beginning c₁ zeroth u.stores u.zeroth_kind in
      let k = on.k ∙ ap (λ (d : Cut). d.k + stores_of (stepped c₁ zeroth) (take n rest)) new in
      subst (λ d. In c₁.words zeroth.source d (suc (stores_of (stepped c₁ zeroth) (take n rest)))) (sym (at_since n h))
      (subst (In c₁.words zeroth.source (foldl stepped (stepped c₁ zeroth) (take n rest))) (omega (arith, k))
      (begun (on.old ∙ ap (λ (d : Cut). d.old) new) (on.source ∙ ap (λ (d : Cut). d.source) new)))

pub cuts_belong : CutsBelong
cuts_belong words before idle zeroth rest later u =
    record {
      before_it = before_it words before idle zeroth rest later u;
      since = since words before idle zeroth rest later u;
    }

pub before_any : BeforeAny
before_any words steps none source n = to_begin (ap (λ (d : Cut). d.words) (idling steps (start words) none n))
