-- The longest runs are a chain that says what addresses reach, and such a chain is the longest runs.
use Rattle.std.specs.Prelude.{Option}
use Rattle.reach.specs.declared.Reach.{Reach}
use Prim.Native.Nat.{ℕ, suc, ◌+◌, ◌-◌, ◌≤◌, ◌<◌}
use mathlib.Core.Bool.{Bool, true, false, false≢true}
use mathlib.Core.List.{List, [], ◌∷◌}
use mathlib.Core.Path.{◌≡◌, refl, sym, ap, subst, ◌∙◌}
use native.Mathlib.Omega.{arith}
use lib.Dec.{ltb}
use borrow.Author.Tests.{ltb-true, ltb-false}
use Rattle.fields.specs.Numbers.{bit}
use Rattle.perm.specs.Perm.{perm_code}
use Rattle.refusal.proofs.All.{all_always, pairs_map}
use Rattle.refusal.specs.All.{All, AllPairs}
use Rattle.runs.proofs.Joined.{Proper, follows, goes_on_lem}
use Rattle.runs.specs.Runs.{goes_on, runs_from}
use Rattle.runs.specs.declared.Run.{Run}
use Rattle.runs_theorems.proofs.Chain.{Ends, Chain, all_from, says_nothing, runs_chain, runs_say, runs_stop, stops, chain_unique}
use Rattle.runs_theorems.proofs.Reach.{same_perm, same_bit, holds_true, in_first, past_first}
use Rattle.runs_theorems.specs.LongestRuns.{holds, run_reach, reach_in, Leads, Longest, LongestRuns, RunsAreLongest, OneListOfRuns}

module _ (f : ℕ → Option Reach) where
  -- what is said of addresses from x on
  abbrev Says : ℕ → List Run → Type 0
  Says x rs = (y : ℕ) → x ≤ y → f y ≡ reach_in rs y

  onward : (x : ℕ) (r : Run) (rs : List Run) → x ≤ suc r.last → Says x (r ∷ rs) → Says (suc r.last) rs
  onward x r rs h says y past = says y (omega (arith, h, past)) ∙ past_first r y rs past

  chain_proper : (x : ℕ) (rs : List Run) → Chain x rs → All Proper rs
  chain_proper x [] c = tt
  chain_proper x (r ∷ rs) c = (c.1, chain_proper (suc r.last) rs c.3)

  chain_ascends : (x : ℕ) (rs : List Run) → Chain x rs → AllPairs (λ r s. r.last < s.first) rs
  chain_ascends x [] c = tt
  chain_ascends x (r ∷ rs) c = (all_from (suc r.last) rs c.3, chain_ascends (suc r.last) rs c.3)

  -- what is reached just before x leads to none of them
  abbrev Unled : ℕ → List Run → Type 0
  Unled x [] = Unit
  Unled x (r ∷ rs) = (y : ℕ) → suc y ≡ x → x ≡ r.first → Leads (f y) r → ⊥

  unled_next : (r : Run) (rs : List Run) → Proper r → Ends r rs → f r.last ≡ run_reach r r.last → Unled (suc r.last) rs
  unled_next r [] p ends here = tt
  unled_next r (s ∷ ss) p ends here = λ y e next leads.
      let same : y ≡ r.last = omega (arith, e) in
      let l : Leads (run_reach r r.last) s = subst (λ a. Leads a s) (ap f same ∙ here) leads in
      let on = goes_on_lem r s
      (record { next = next; output = omega (arith, l.0, next, p); access = ap perm_code l.1; never = ap bit l.2 }) in
      false≢true (sym ends ∙ on)

  chain_longest : (x : ℕ) (rs : List Run) → Chain x rs → Says x rs → Unled x rs → All (Longest f) rs
  chain_longest x [] c says unled = tt
  chain_longest x (r ∷ rs) c says unled =
      let next = onward x r rs (omega (arith, c.0, c.1)) says in
      let here = says r.last (omega (arith, c.0, c.1)) ∙ in_first r r.last rs c.1 (omega arith) in (
        record { end = λ e. stops r rs c.1 c.2 c.3 (sym (next (suc r.last) (omega arith)) ∙ e); front = front },
        chain_longest (suc r.last) rs c.3 next (unled_next r rs c.1 c.2 here),
      )
    where
      front : (y : ℕ) → suc y ≡ r.first → Leads (f y) r → ⊥
      front y e leads = go (ltb y x) refl
        where
          go : (b : Bool) → ltb y x ≡ b → ⊥
          go true q =
              let at : suc y ≡ x = omega (arith, ltb-true y x q, e, c.0) in unled y at (omega (arith, at, e)) leads
          go false q =
              let none = says y (ltb-false y x q)
              ∙ says_nothing r.first y (r ∷ rs) (omega arith, c.1, c.2, c.3) (omega (arith, e)) in
              subst (λ a. Leads a r) none leads

  pub longest_runs : (rs : List Run) → Chain 0 rs → ((x : ℕ) → f x ≡ reach_in rs x) → LongestRuns f rs
  longest_runs rs c says =
      let ascends = chain_ascends 0 rs c in
      record {
        covers = says;
        once = λ x. pairs_map (λ r. Unit) (λ r s. r.last < s.first) (λ r s. holds r x ≡ true → holds s x ≡ true → ⊥)
            (λ r s u v less a b. let i = holds_true r x a in let j = holds_true s x b in omega (arith, less, i.1, j.0))
            rs
            (all_always (λ r. Unit) (λ r. tt) rs)
            ascends;
        proper = chain_proper 0 rs c;
        ascending = ascends;
        longest = chain_longest 0 rs c (λ y h. says y) (unled_first rs);
      }
    where
      unled_first : (ts : List Run) → Unled 0 ts
      unled_first [] = tt
      unled_first (t ∷ ts) = λ y e. absurd (omega (arith, e))

  -- the other way
  ends_of :
      (x : ℕ) (r : Run) (rs : List Run) → Proper r → All Proper rs → All (λ s. r.last < s.first) rs →
      Longest f r → Says x (r ∷ rs) → x ≤ suc r.last → Ends r rs
  ends_of x r [] p proper less longest says h = tt
  ends_of x r (s ∷ ss) p proper less longest says h = go (goes_on r s) refl
    where
      go : (b : Bool) → goes_on r s ≡ b → b ≡ false
      go false e = refl
      go true e =
          let on = follows r s e in
          let y = suc r.last in
          let output : s.pa + (y - s.first) ≡ r.pa + (y - r.first) = omega (arith, on.output, on.next, p) in
          let perm = sym (same_perm r.perm s.perm on.access) in
          let xn = sym (same_bit r.xn s.xn on.never) in
          let alike : run_reach s y ≡ run_reach r y = rw (output, perm, xn) refl in
          let there = in_first s y ss (omega (arith, on.next)) (omega (arith, on.next, proper.0)) in
          absurd (longest.end (says y h ∙ past_first r y (s ∷ ss) (omega arith) ∙ there ∙ alike))

  chain_of :
      (x : ℕ) (rs : List Run) → All (λ r. x ≤ r.first) rs → All Proper rs → AllPairs (λ r s. r.last < s.first) rs →
      All (Longest f) rs → Says x rs → Chain x rs
  chain_of x [] from proper ascends longest says = tt
  chain_of x (r ∷ rs) from proper ascends longest says =
      let h : x ≤ suc r.last = omega (arith, from.0, proper.0) in (
        from.0,
        proper.0,
        ends_of x r rs proper.0 proper.1 ascends.0 longest.0 says h,
        chain_of (suc r.last) rs ascends.0 proper.1 ascends.1 longest.1 (onward x r rs h says),
      )

  pub chain_longest_runs : (rs : List Run) → LongestRuns f rs → Chain 0 rs
  chain_longest_runs rs l =
      chain_of 0 rs (all_always (λ r. 0 ≤ r.first) (λ r. omega arith) rs) l.proper l.ascending l.longest (λ y h. l.covers y)

-- what each run says of its addresses
pub runs_tell : (f : ℕ → Option Reach) (rs : List Run) → LongestRuns f rs →
    All (λ r. (r.first ≤ r.last) × ((x : ℕ) → r.first ≤ x → x ≤ r.last → f x ≡ run_reach r x)) rs
runs_tell f rs l = go 0 rs (chain_longest_runs f rs l) (λ y h. l.covers y)
  where
    go : (n : ℕ) (ts : List Run) → Chain n ts → Says f n ts →
        All (λ r. (r.first ≤ r.last) × ((x : ℕ) → r.first ≤ x → x ≤ r.last → f x ≡ run_reach r x)) ts
    go n [] c says = tt
    go n (r ∷ rs) c says = (
      (c.1, λ x a b. says x (omega (arith, a, c.0)) ∙ in_first r x rs a b),
      go (suc r.last) rs c.3 (onward f n r rs (omega (arith, c.0, c.1)) says),
    )

pub runs_are_longest : RunsAreLongest
runs_are_longest f n none = longest_runs f (runs_from f 0 n) (runs_chain f n 0) says
  where
    says : (x : ℕ) → f x ≡ reach_in (runs_from f 0 n) x
    says x = go (ltb x n) refl
      where
        go : (b : Bool) → ltb x n ≡ b → f x ≡ reach_in (runs_from f 0 n) x
        go true e = sym (runs_say f n 0 x (omega arith) (omega (arith, ltb-true x n e)))
        go false e = none x (ltb-false x n e) ∙ sym (runs_stop f n 0 x (omega (arith, ltb-false x n e)))

pub one_list_of_runs : OneListOfRuns
one_list_of_runs f rs ts a b =
    chain_unique 0 rs ts (chain_longest_runs f rs a) (chain_longest_runs f ts b) (λ y h. sym (a.covers y) ∙ b.covers y)
