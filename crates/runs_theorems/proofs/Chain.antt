-- Runs one after the other, of which none goes on in the next: a list of them is fixed by what it says.
use Rattle.std.specs.Prelude.{Option, Some, None}
use Prim.Native.Nat.{ℕ, zero, suc, ◌+◌, ◌-◌, ◌≤◌, ◌<◌}
use mathlib.Core.Bool.{Bool, true, false, false≢true}
use mathlib.Core.List.{List, [], ◌∷◌}
use mathlib.Core.Path.{◌≡◌, refl, sym, ap, ap₂, subst, ◌∙◌}
use native.Mathlib.Omega.{arith}
use lib.Dec.{leb, ltb}
use borrow.Author.Tests.{leb-true, leb-false, ltb-true, ltb-false}
use Rattle.fields.specs.Named.{pick}
use Rattle.fields.specs.Numbers.{bit}
use Rattle.perm.specs.Perm.{perm_code}
use Rattle.perm.specs.declared.Perm.{Perm}
use Rattle.reach.specs.declared.Reach.{Reach}
use Rattle.refusal.proofs.All.{all_map}
use Rattle.refusal.specs.All.{All}
use Rattle.runs.proofs.Joined.{Proper, Follows, follows, goes_on_lem, joined_goes_on}
use Rattle.runs.specs.Runs.{run, goes_on, joined, before, with_address, runs_from}
use Rattle.runs.specs.declared.Run.{Run}
use Rattle.runs_theorems.specs.LongestRuns.{holds, run_reach, reach_in}
use Rattle.runs_theorems.proofs.Reach.{reached≢nothing, same_reach, same_perm, same_bit, held, before_held, after_held}
use Rattle.runs_theorems.proofs.Reach.{in_first, past_first, in_none}

-- it does not go on in the first of those that follow
abbrev pub Ends : Run → List Run → Type 0
Ends r [] = Unit
Ends r (s ∷ rs) = goes_on r s ≡ false

-- runs from x on
abbrev pub Chain : ℕ → List Run → Type 0
Chain x [] = Unit
Chain x (r ∷ rs) = (x ≤ r.first) × Proper r × Ends r rs × Chain (suc r.last) rs

pub from_less : (x y : ℕ) (rs : List Run) → x ≤ y → Chain y rs → Chain x rs
from_less x y [] h c = tt
from_less x y (r ∷ rs) h c = (omega (arith, h, c.0), c.1, c.2, c.3)

pub all_from : (x : ℕ) (rs : List Run) → Chain x rs → All (λ r. x ≤ r.first) rs
all_from x [] c = tt
all_from x (r ∷ rs) c = (c.0, all_from x rs (from_less x (suc r.last) rs (omega (arith, c.0, c.1)) c.3))

pub says_nothing : (x y : ℕ) (rs : List Run) → Chain x rs → y < x → reach_in rs y ≡ None
says_nothing x y rs c h =
    in_none rs y (all_map (λ r. x ≤ r.first) (λ r. y < r.first) (λ r a. omega (arith, a, h)) rs (all_from x rs c))

-- two runs as one say the same
module _ (r s : Run) (e : goes_on r s ≡ true) (p : Proper r) (q : Proper s) where
  f : Follows r s
  f = follows r s e

  same_run : (y : ℕ) → s.first ≤ y → run_reach (joined r s) y ≡ run_reach s y
  same_run y h =
      let output : r.pa + (y - r.first) ≡ s.pa + (y - s.first) = omega (arith, f.output, f.next, p, h) in
      let perm = same_perm r.perm s.perm f.access in
      let xn = same_bit r.xn s.xn f.never in
      rw (output, perm, xn) refl

  pub joined_says : (ts : List Run) (y : ℕ) → reach_in (joined r s ∷ ts) y ≡ pick (holds r y) (run_reach r y) (reach_in (s ∷ ts) y)
  unfolding reach_in
  joined_says ts y = go (ltb y r.first) (leb y r.last) refl refl
    where
      go : (a b : Bool) → ltb y r.first ≡ a → leb y r.last ≡ b →
          reach_in (joined r s ∷ ts) y ≡ pick (holds r y) (run_reach r y) (reach_in (s ∷ ts) y)
      go true b u v =
          let less : y < r.first = ltb-true _ _ u in
          rw (before_held (joined r s) y less, before_held r y less, before_held s y (omega (arith, less, f.next, p))) refl
      go false true u v =
          let more : r.first ≤ y = ltb-false _ _ u in
          let less : y ≤ r.last = leb-true _ _ v in
          rw (held (joined r s) y more (omega (arith, less, f.next, q)), held r y more less) refl
      go false false u v =
          let more : r.last < y = leb-false _ _ v in
          let there : s.first ≤ y = omega (arith, more, f.next) in
          last (leb y s.last) refl more there
        where
          last : (c : Bool) → leb y s.last ≡ c → r.last < y → s.first ≤ y →
              reach_in (joined r s ∷ ts) y ≡ pick (holds r y) (run_reach r y) (reach_in (s ∷ ts) y)
          last true w more there =
              let less : y ≤ s.last = leb-true _ _ w in
              rw (held (joined r s) y (omega (arith, more, p)) less, after_held r y more, held s y there less) (same_run y there)
          last false w more there =
              let past : s.last < y = leb-false _ _ w in
              rw (after_held (joined r s) y past, after_held r y more, after_held s y past) refl

module _ (r : Run) (p : Proper r) where
  pub before_chain : (rs : List Run) → Chain (suc r.last) rs → Chain r.first (before r rs)
  unfolding before
  before_chain [] c = (omega arith, p, tt, tt)
  before_chain (s ∷ rs) c = go (goes_on r s) refl
    where
      go : (b : Bool) → goes_on r s ≡ b → Chain r.first (pick b (joined r s ∷ rs) (r ∷ s ∷ rs))
      go true e =
          let ends : (ts : List Run) → Ends s ts → Ends (joined r s) ts = λ ts. keeps ts e in
          (omega arith, omega (arith, p, c.0, c.1), ends rs c.2, c.3)
        where
          keeps : (ts : List Run) → goes_on r s ≡ true → Ends s ts → Ends (joined r s) ts
          keeps [] e x = tt
          keeps (t ∷ ts) e x = joined_goes_on r s t p c.1 e ∙ x
      go false e = (omega arith, p, e, c)

  pub before_says :
      (rs : List Run) → Chain (suc r.last) rs →
      (y : ℕ) → reach_in (before r rs) y ≡ pick (holds r y) (run_reach r y) (reach_in rs y)
  unfolding before reach_in
  before_says [] c y = refl
  before_says (s ∷ rs) c y = go (goes_on r s) refl
    where
      go : (b : Bool) → goes_on r s ≡ b →
          reach_in (pick b (joined r s ∷ rs) (r ∷ s ∷ rs)) y ≡ pick (holds r y) (run_reach r y) (reach_in (s ∷ rs) y)
      go true e = joined_says r s e p c.1 rs y
      go false e = refl

-- an address before those that follow
module _ (x : ℕ) (a : Option Reach) (rs : List Run) (c : Chain (suc x) rs) where
  first_says : reach_in (with_address x a rs) x ≡ a
  first_says = go a
    where
      go : (b : Option Reach) → reach_in (with_address x b rs) x ≡ b
      go (Some r) =
          let none : r.pa + (x - x) ≡ r.pa = omega arith in
          before_says (run x x r) (omega arith) rs c x
          ∙ ap (λ t. pick t (run_reach (run x x r) x) (reach_in rs x)) (held (run x x r) x (omega arith) (omega arith))
          ∙ ap (λ (p : ℕ). Some (record { pa = p; perm = r.perm; xn = r.xn })) none
      go None = says_nothing (suc x) x rs c (omega arith)

  later_says : (y : ℕ) → x < y → reach_in (with_address x a rs) y ≡ reach_in rs y
  later_says y h = go a
    where
      go : (b : Option Reach) → reach_in (with_address x b rs) y ≡ reach_in rs y
      go (Some r) =
          before_says (run x x r) (omega arith) rs c y
          ∙ ap (λ t. pick t (run_reach (run x x r) y) (reach_in rs y)) (after_held (run x x r) y h)
      go None = refl

-- the runs of n addresses from x on say what these reach, and of others nothing
module _ (f : ℕ → Option Reach) where
  pub runs_chain : (n x : ℕ) → Chain x (runs_from f x n)
  unfolding runs_from
  runs_chain zero x = tt
  runs_chain (suc n) x = go (f x) (runs_chain n (suc x))
    where
      go : (a : Option Reach) → Chain (suc x) (runs_from f (suc x) n) → Chain x (with_address x a (runs_from f (suc x) n))
      go (Some r) c = before_chain (run x x r) (omega arith) (runs_from f (suc x) n) c
      go None c = from_less x (suc x) (runs_from f (suc x) n) (omega arith) c

  pub runs_say : (n x y : ℕ) → x ≤ y → y < x + n → reach_in (runs_from f x n) y ≡ f y
  unfolding runs_from
  runs_say zero x y a b = absurd (omega (arith, a, b))
  runs_say (suc n) x y a b = go (ltb x y) refl (λ h. runs_say n (suc x) y h (omega (arith, b)))
    where
      go : (t : Bool) → ltb x y ≡ t → (x < y → reach_in (runs_from f (suc x) n) y ≡ f y) →
          reach_in (with_address x (f x) (runs_from f (suc x) n)) y ≡ f y
      go true e later =
          let h : x < y = ltb-true x y e in
          later_says x (f x) (runs_from f (suc x) n) (runs_chain n (suc x)) y h ∙ later h
      go false e later =
          let same : x ≡ y = omega (arith, ltb-false x y e, a) in
          subst (λ (z : ℕ). reach_in (with_address x (f x) (runs_from f (suc x) n)) z ≡ f z) same
          (first_says x (f x) (runs_from f (suc x) n) (runs_chain n (suc x)))

  pub runs_stop : (n x y : ℕ) → x + n ≤ y → reach_in (runs_from f x n) y ≡ None
  unfolding runs_from reach_in
  runs_stop zero x y a = refl
  runs_stop (suc n) x y a =
      later_says x (f x) (runs_from f (suc x) n) (runs_chain n (suc x)) y (omega (arith, a)) ∙ runs_stop n (suc x) y (omega (arith, a))

-- what follows a run is not said by it
pub stops :
    (r : Run) (rs : List Run) → Proper r → Ends r rs → Chain (suc r.last) rs →
    reach_in rs (suc r.last) ≡ run_reach r (suc r.last) → ⊥
unfolding reach_in
stops r [] p ends chain e = reached≢nothing _ (sym e)
stops r (s ∷ ss) p ends chain e = go (ltb (suc r.last) s.first) refl
  where
    y : ℕ
    y = suc r.last

    go : (b : Bool) → ltb y s.first ≡ b → ⊥
    go true q =
        reached≢nothing _
        (sym e ∙ says_nothing s.first y (s ∷ ss) (omega arith, chain.1, chain.2, chain.3) (ltb-true y s.first q))
    go false q =
        let next : suc r.last ≡ s.first = omega (arith, ltb-false y s.first q, chain.0) in
        let says = same_reach _ _ (sym (in_first s y ss (omega (arith, next)) (omega (arith, next, chain.1))) ∙ e) in
        let output = ap (λ (a : Reach). a.pa) says in
        let on = goes_on_lem r s
        (record {
          next = next;
          output = omega (arith, output, next, p);
          access = ap perm_code (sym (ap (λ (a : Reach). a.perm) says));
          never = ap bit (sym (ap (λ (a : Reach). a.xn) says));
        }) in
        false≢true (sym ends ∙ on)

-- two chains that say the same are the same

Same : ℕ → List Run → List Run → Type 0
Same x rs ts = (y : ℕ) → x ≤ y → reach_in rs y ≡ reach_in ts y

at_first : (r : Run) (rs : List Run) → Proper r → reach_in (r ∷ rs) r.first ≡ run_reach r r.first
at_first r rs p = in_first r r.first rs (omega arith) p

not_sooner :
    (x : ℕ) (r t : Run) (rs ts : List Run) → Chain x (r ∷ rs) → Chain x (t ∷ ts) →
    Same x (r ∷ rs) (t ∷ ts) → r.first < t.first → ⊥
unfolding Same
not_sooner x r t rs ts c d same h =
    let below = says_nothing t.first r.first (t ∷ ts) (omega arith, d.1, d.2, d.3) h in
    reached≢nothing _ (sym (at_first r rs c.1) ∙ same r.first c.0 ∙ below)

not_shorter :
    (x : ℕ) (r t : Run) (rs ts : List Run) → Chain x (r ∷ rs) → Same x (r ∷ rs) (t ∷ ts) →
    r.first ≡ t.first → r.pa ≡ t.pa → r.perm ≡ t.perm → r.xn ≡ t.xn → r.last < t.last → ⊥
unfolding Same
not_shorter x r t rs ts c same begins pa perm xn h =
    let y = suc r.last in
    let there = in_first t y ts (omega (arith, c.1, begins)) (omega (arith, h)) in
    let alike : run_reach t y ≡ run_reach r y = rw (begins, pa, perm, xn) refl in
    stops r rs c.1 c.2 c.3 (sym (past_first r y rs (omega arith)) ∙ same y (omega (arith, c.0, c.1)) ∙ there ∙ alike)

equal : (m n : ℕ) → (m < n → ⊥) → (n < m → ⊥) → m ≡ n
equal m n a b = go (ltb m n) (ltb n m) refl refl
  where
    go : (s t : Bool) → ltb m n ≡ s → ltb n m ≡ t → m ≡ n
    go true t p q = absurd (a (ltb-true m n p))
    go false true p q = absurd (b (ltb-true n m q))
    go false false p q = omega (arith, ltb-false m n p, ltb-false n m q)

pub with_all : (r t : Run) → r.first ≡ t.first → r.last ≡ t.last → r.pa ≡ t.pa → r.perm ≡ t.perm → r.xn ≡ t.xn → r ≡ t
with_all r t a b c d e =
    ap (λ (x : ℕ). record { first = x; last = r.last; pa = r.pa; perm = r.perm; xn = r.xn }) a
    ∙ ap (λ (x : ℕ). record { first = t.first; last = x; pa = r.pa; perm = r.perm; xn = r.xn }) b
    ∙ ap (λ (x : ℕ). record { first = t.first; last = t.last; pa = x; perm = r.perm; xn = r.xn }) c
    ∙ ap (λ (x : Perm). record { first = t.first; last = t.last; pa = t.pa; perm = x; xn = r.xn }) d
    ∙ ap (λ (x : Bool). record { first = t.first; last = t.last; pa = t.pa; perm = t.perm; xn = x }) e

heads :
    (x : ℕ) (r t : Run) (rs ts : List Run) → Chain x (r ∷ rs) → Chain x (t ∷ ts) → Same x (r ∷ rs) (t ∷ ts) → r ≡ t
unfolding Same
heads x r t rs ts c d same =
    let back : Same x (t ∷ ts) (r ∷ rs) = λ y h. sym (same y h) in
    let begins = equal r.first t.first (not_sooner x r t rs ts c d same) (not_sooner x t r ts rs d c back) in
    let there = in_first t r.first ts (omega (arith, begins)) (omega (arith, begins, d.1)) in
    let says = same_reach _ _ (sym (at_first r rs c.1) ∙ same r.first c.0 ∙ there) in
    let pa : r.pa ≡ t.pa = omega (arith, ap (λ (a : Reach). a.pa) says, begins) in
    let perm = ap (λ (a : Reach). a.perm) says in
    let xn = ap (λ (a : Reach). a.xn) says in
    let ends = equal r.last t.last (not_shorter x r t rs ts c same begins pa perm xn)
    (not_shorter x t r ts rs d back (sym begins) (sym pa) (sym perm) (sym xn)) in
    with_all r t begins ends pa perm xn

pub chain_unique : (x : ℕ) (rs ts : List Run) → Chain x rs → Chain x ts → ((y : ℕ) → x ≤ y → reach_in rs y ≡ reach_in ts y) → rs ≡ ts
unfolding Same reach_in
chain_unique x [] [] c d same = refl
chain_unique x [] (t ∷ ts) c d same = absurd (reached≢nothing _ (sym (at_first t ts d.1) ∙ sym (same t.first d.0)))
chain_unique x (r ∷ rs) [] c d same = absurd (reached≢nothing _ (sym (at_first r rs c.1) ∙ same r.first c.0))
chain_unique x (r ∷ rs) (t ∷ ts) c d same =
    let e = heads x r t rs ts c d same in
    let last = ap (λ (u : Run). u.last) e in
    ap₂ (λ (u : Run) (us : List Run). u ∷ us) e
    (chain_unique (suc r.last) rs ts c.3 (subst (λ (n : ℕ). Chain (suc n) ts) (sym last) d.3)
    (λ y h. sym (past_first r y rs h) ∙ same y (omega (arith, h, c.0, c.1)) ∙ past_first t y ts (omega (arith, h, last))))
