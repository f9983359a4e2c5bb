-- Over a slot of table 1: one window is in it, or none.
use Rattle.std.specs.Prelude.{Option, None, Contains}
use Rattle.reach.specs.declared.Reach.{Reach}
use Prim.Native.Nat.{ℕ, zero, suc, ◌+◌, ◌-◌, ◌*◌, ◌≤◌, ◌<◌}
use mathlib.Core.Bool.{Bool, true, false, ◌&&◌, false≢true}
use mathlib.Core.List.{List, [], ◌∷◌, map}
use mathlib.Core.Path.{◌≡◌, refl, sym, ap, subst, ◌∙◌}
use native.Mathlib.Nat.{le_of_suc-le-suc, not-suc-le-zero}
use native.Mathlib.Omega.{arith}
use lib.Dec.{eqb}
use lib.ListN.{length, get_or}
use borrow.Author.Tests.{eqb-true, lt-leb, le-leb, le-ltb}
use Rattle.accepted_facts.specs.Accepted.{Within}
use Rattle.annex.specs.Onward.{Onward, Across}
use Rattle.annex.specs.Windows.{region_in, granted_over, has_slot, Sited, Placed}
use Rattle.annex.specs.Writing.{resumed, Written}
use Rattle.annex.specs.declared.Writer.{Writer}
use Rattle.fields.specs.Named.{pick}
use Rattle.layout.specs.Size.{entries, l1_span, input_limit, board_limit}
use Rattle.layout.specs.Window.{l1_slot, slot}
use Rattle.layout.specs.declared.Window.{Window}
use Rattle.refusal.proofs.All.{all_at, all_map}
use Rattle.refusal.specs.All.{All, AllPairs}
use Rattle.runs.proofs.Pieces.{gap}
use Rattle.runs.specs.Page.{page_of}
use Rattle.runs.specs.Runs.{runs_from}
use Rattle.runs.specs.declared.Run.{Run}
use Rattle.window_reach.proofs.Contains.{contained}
use Rattle.window_reach.proofs.Grants.{grant_here, grant_past, granted_none}
use Rattle.window_reach.proofs.Slot.{not_here, past_limit}
use Rattle.window_reach.specs.Granted.{contains, granted_in}

pub has : (s : ℕ) (w : Window) → has_slot s w ≡ true → (w.present ≡ true) × (slot w ≡ s)
has s w e = go w.present (eqb (slot w) s) refl refl e
  where
    go : (a b : Bool) → w.present ≡ a → eqb (slot w) s ≡ b → (a && b) ≡ true → (w.present ≡ true) × (slot w ≡ s)
    go true true p q t = (p, eqb-true _ _ q)
    go true false p q t = absurd (false≢true t)
    go false b p q t = absurd (false≢true t)

-- by a place of its own for each
pub all_of : {A : Type 0} (P : A → Type 0) (d : A) (xs : List A) → ((k : ℕ) → k < length xs → P (get_or xs k d)) → All P xs
all_of P d [] each = tt
all_of P d (x ∷ xs) each = (each 0 (omega arith), all_of P d xs (λ k h. each (suc k) (omega (arith, h))))

-- the runs from a slot on
abbrev pub slots_from : (ℕ → Option Reach) → ℕ → ℕ → List Run
slots_from g s n = runs_from g (s * l1_span) ((entries - s) * l1_span + n)

pub last_slot : (g : ℕ → Option Reach) (s n : ℕ) → s ≡ entries → slots_from g s n ≡ runs_from g input_limit n
last_slot g s n e = let none : 0 + n ≡ n = omega arith in rw e (ap (runs_from g input_limit) none)

pub one_slot : (g : ℕ → Option Reach) (s n : ℕ) → s < entries → slots_from g s n ≡ runs_from g (s * l1_span) (l1_span + ((entries - suc s) * l1_span + n))
one_slot g s n h =
    let one_less : (entries - s) * l1_span + n ≡ l1_span + ((entries - suc s) * l1_span + n) = omega (arith, h) in
    ap (runs_from g (s * l1_span)) one_less

module _ (base sup : List ℕ) (exempt : Bool) where
  pub region_window : (w : Window) → (region_in base sup exempt w).window ≡ w
  region_window w = go (eqb w.code 1) (eqb w.code 2) (eqb w.code 3) refl refl refl
    where
      go : (a b c : Bool) → eqb w.code 1 ≡ a → eqb w.code 2 ≡ b → eqb w.code 3 ≡ c → (region_in base sup exempt w).window ≡ w
      go true b c p q r = rw p refl
      go false true c p q r = rw (p, q) refl
      go false false true p q r = rw (p, q, r) refl
      go false false false p q r = rw (p, q, r) refl

  abbrev f : List Window → ℕ → Option Reach
  f ws x = granted_over base sup exempt ws x

  module _ (x : ℕ) where
    none_contain :
        (ws : List Window) → All (λ w. contains w x ≡ false) ws →
        All (λ r. contains r.window x ≡ false) (map (region_in base sup exempt) ws)
    none_contain [] a = tt
    none_contain (w ∷ ws) a = (ap (λ v. contains v x) (region_window w) ∙ a.0, none_contain ws a.1)

    pub no_window : (ws : List Window) → All (λ w. contains w x ≡ false) ws → f ws x ≡ None
    no_window ws a = granted_none (map (region_in base sup exempt) ws) x (none_contain ws a)

    elsewhere :
        (ws : List Window) → All (λ w. w.present ≡ true → Sited w) ws → All (λ w. has_slot (l1_slot x) w ≡ false) ws →
        All (λ w. contains w x ≡ false) ws
    elsewhere [] s a = tt
    elsewhere (w ∷ ws) s a = (not_here board_limit w x (λ p. (s.0 p).within) a.0, elsewhere ws s.1 a.1)

    -- another window is in another slot
    other : (v w : Window) → v.present ≡ true → slot v ≡ l1_slot x → (v.present ≡ true → w.present ≡ true → slot v ≡ slot w → ⊥) →
        has_slot (l1_slot x) w ≡ false
    other v w here same apart = go w.present (eqb (slot w) (l1_slot x)) refl refl
      where
        go : (a b : Bool) → w.present ≡ a → eqb (slot w) (l1_slot x) ≡ b → (a && b) ≡ false
        go false b p q = refl
        go true false p q = refl
        go true true p q = absurd (apart here p (same ∙ sym (eqb-true _ _ q)))

    pub first_window_lem :
        (w : Window) (ws : List Window) →
        f (w ∷ ws) x ≡ pick (contains w x) (granted_in (region_in base sup exempt w) x) (f ws x)
    first_window_lem w ws = go (contains w x) refl
      where
        go : (b : Bool) → contains w x ≡ b → f (w ∷ ws) x ≡ pick b (granted_in (region_in base sup exempt w) x) (f ws x)
        go true e =
            grant_here (region_in base sup exempt w) (map (region_in base sup exempt) ws) x (ap (λ v. contains v x) (region_window w) ∙ e)
        go false e =
            grant_past (region_in base sup exempt w) (map (region_in base sup exempt) ws) x (ap (λ v. contains v x) (region_window w) ∙ e)

    pub one_window :
        (ws : List Window) (i : ℕ) (d : Window) → i < length ws →
        All (λ w. w.present ≡ true → Sited w) ws →
        AllPairs (λ v w. v.present ≡ true → w.present ≡ true → slot v ≡ slot w → ⊥) ws →
        let w = get_or ws i d in
        w.present ≡ true → slot w ≡ l1_slot x → f ws x ≡ pick (contains w x) (granted_in (region_in base sup exempt w) x) None
    one_window [] i d h sited apart here same = absurd (not-suc-le-zero h)
    one_window (w ∷ ws) zero d h sited apart here same =
        let others = elsewhere ws sited.1 (all_map _ (λ v. has_slot (l1_slot x) v ≡ false) (λ v a. other w v here same a) ws apart.0) in
        first_window_lem w ws ∙ ap (pick (contains w x) (granted_in (region_in base sup exempt w) x)) (no_window ws others)
    one_window (v ∷ ws) (suc i) d h sited apart here same =
        let w = get_or ws i d in
        let few = le_of_suc-le-suc h in
        let apart-here = all_at (λ u. v.present ≡ true → u.present ≡ true → slot v ≡ slot u → ⊥) ws i d few apart.0 in
        let not_in = not_here board_limit v x (λ p. (sited.0 p).within) (other w v here same (λ p q e. apart-here q p (sym e))) in
        first_window_lem v ws
        ∙ ap (λ b. pick b (granted_in (region_in base sup exempt v) x) (f ws x)) not_in
        ∙ one_window ws i d few sited.1 apart.1 here same

  module _ (ws : List Window) (placed : Placed ws) (s : ℕ) (few : s < entries) where
    in_slot : (i : ℕ) → i < l1_span → l1_slot (s * l1_span + i) ≡ s
    in_slot i h = omega arith

    pub empty_slot :
        All (λ w. has_slot s w ≡ false) ws →
        (n : ℕ) → runs_from (f ws) (s * l1_span) (l1_span + n) ≡ runs_from (f ws) (suc s * l1_span) n
    empty_slot none n =
        let next : s * l1_span + l1_span ≡ suc s * l1_span = omega arith in
        gap (f ws) l1_span (s * l1_span) n
        (λ i h. let x = s * l1_span + i in
        no_window x ws
        (elsewhere x ws placed.each (subst (λ (t : ℕ). All (λ w. has_slot t w ≡ false) ws) (sym (in_slot i h)) none)))
        ∙ ap (λ (y : ℕ). runs_from (f ws) y n) next

    module _ (i : ℕ) (d : Window) (h : i < length ws) (here : (get_or ws i d).present ≡ true) (same : slot (get_or ws i d) ≡ s) where
      abbrev w : Window
      w = get_or ws i d

      abbrev ipa : ℕ
      ipa = w.ipa

      abbrev span : ℕ
      span = w.span

      pub within : Within board_limit w
      within = (all_at (λ v. v.present ≡ true → Sited v) ws i d h placed.each here).within

      pub starts : s * l1_span ≤ ipa
      starts = omega (arith, within.below, same)

      pub ends : ipa + span ≤ suc s * l1_span
      ends = omega (arith, within.below, within.inside, same)

      at : (x : ℕ) → l1_slot x ≡ s → f ws x ≡ pick (contains w x) (granted_in (region_in base sup exempt w) x) None
      at x e = one_window x ws i d h placed.each placed.apart here (same ∙ sym e)

      before_it : (x : ℕ) → l1_slot x ≡ s → x < ipa → f ws x ≡ None
      before_it x e less =
          let out : contains w x ≡ false = rw (here, lt-leb _ _ less) refl in
          at x e ∙ ap (λ b. pick b (granted_in (region_in base sup exempt w) x) None) out

      after_it : (x : ℕ) → l1_slot x ≡ s → ipa + span ≤ x → f ws x ≡ None
      after_it x e more =
          let past : span ≤ x - ipa = omega (arith, more) in
          let reached : ipa ≤ x = omega (arith, more) in
          let out : contains w x ≡ false = rw (here, le-leb _ _ reached, le-ltb _ _ past) refl in
          at x e ∙ ap (λ b. pick b (granted_in (region_in base sup exempt w) x) None) out

      pub in_it : (j : ℕ) → j < span → f ws (ipa + j) ≡ granted_in (region_in base sup exempt w) (ipa + j)
      in_it j less =
          let x = ipa + j in
          let e : l1_slot x ≡ s = omega (arith, starts, ends, less, few) in
          let there = contained w x (record { there = here; from = omega arith; before = omega (arith, less) }) in
          at x e ∙ ap (λ b. pick b (granted_in (region_in base sup exempt w) x) None) there

      module _ (n : ℕ) where
        abbrev pub rest : ℕ
        rest = suc s * l1_span - (ipa + span) + n

        pub to_it : runs_from (f ws) (s * l1_span) (l1_span + n) ≡ runs_from (f ws) ipa (span + rest)
        to_it =
            let lead = ipa - s * l1_span in
            let all : l1_span + n ≡ lead + (span + rest) = omega (arith, starts, ends) in
            let there : s * l1_span + lead ≡ ipa = omega (arith, starts) in
            ap (runs_from (f ws) (s * l1_span)) all
            ∙ gap (f ws) lead (s * l1_span) (span + rest)
            (λ j less. before_it (s * l1_span + j) (in_slot j (omega (arith, less, starts, ends))) (omega (arith, less, starts)))
            ∙ ap (λ (y : ℕ). runs_from (f ws) y (span + rest)) there

        pub from_it : runs_from (f ws) (ipa + span) rest ≡ runs_from (f ws) (suc s * l1_span) n
        from_it =
            let trail = suc s * l1_span - (ipa + span) in
            let there : ipa + span + trail ≡ suc s * l1_span = omega (arith, ends) in
            gap (f ws) trail (ipa + span) n
            (λ j less. after_it (ipa + span + j) (omega (arith, less, starts, ends, few)) (omega arith))
            ∙ ap (λ (y : ℕ). runs_from (f ws) y n) there

      pub slot_across :
          (p q : Writer) → Across ipa span (λ j. granted_in (region_in base sup exempt w) (ipa + j)) p q →
          (n : ℕ) → Onward p (runs_from (f ws) (s * l1_span) (l1_span + n)) q (runs_from (f ws) (suc s * l1_span) n)
      slot_across p q across n text old wr =
          subst (λ (rs : List Run). Written text old (page_of (resumed q.begun rs)) q.at q.page.now) (from_it n)
          (across (f ws) (rest n) in_it text old
          (subst (λ (rs : List Run). Written text old (page_of (resumed p.begun rs)) p.at p.page.now) (to_it n) wr))

  -- slots without a window, one after the other
  pub empty_slots :
      (ws : List Window) → Placed ws → (k s n : ℕ) → s + k ≤ entries →
      ((t : ℕ) → s ≤ t → t < s + k → All (λ w. has_slot t w ≡ false) ws) → slots_from (f ws) s n ≡ slots_from (f ws) (s + k) n
  empty_slots ws placed zero s n h none =
      let same : s ≡ s + 0 = omega arith in ap (λ (t : ℕ). slots_from (f ws) t n) same
  empty_slots ws placed (suc k) s n h none =
      let onward : suc s + k ≡ s + suc k = omega arith in
      one_slot (f ws) s n (omega (arith, h))
      ∙ empty_slot ws placed s (omega (arith, h)) (none s (omega arith) (omega arith)) ((entries - suc s) * l1_span + n)
      ∙ empty_slots ws placed k (suc s) n (omega (arith, h)) (λ t a b. none t (omega (arith, a)) (omega (arith, b)))
      ∙ ap (λ (t : ℕ). slots_from (f ws) t n) onward

  pub to_slot :
      (ws : List Window) → Placed ws → (s t n : ℕ) → s ≤ t → t ≤ entries →
      ((u : ℕ) → s ≤ u → u < t → All (λ w. has_slot u w ≡ false) ws) → slots_from (f ws) s n ≡ slots_from (f ws) t n
  to_slot ws placed s t n onward most none =
      let all : s + (t - s) ≡ t = omega (arith, onward) in
      empty_slots ws placed (t - s) s n (omega (arith, all, most)) (λ u low less. none u low (omega (arith, less, all)))
      ∙ ap (λ (u : ℕ). slots_from (f ws) u n) all

  -- over the slot of a window that is present
  module _ (ws : List Window) (placed : Placed ws) (w : Window) (here : w.present ≡ true) (one : Contains ws w) where
    abbrev v : Window
    v = get_or ws one.0 w

    v_here : v.present ≡ true
    v_here = rw one.2 here

    pub window_few : slot w < entries
    window_few = omega arith

    pub window_ends : w.ipa + w.span ≤ suc (slot w) * l1_span
    window_ends =
        subst (λ (u : Window). u.ipa + u.span ≤ suc (slot u) * l1_span) one.2
        (ends ws placed (slot v) (omega arith) one.0 w one.1 v_here refl)

    pub window_across :
        (p q : Writer) → Across w.ipa w.span (λ i. granted_in (region_in base sup exempt w) (w.ipa + i)) p q →
        (n : ℕ) → Onward p (slots_from (f ws) (slot w) n) q (slots_from (f ws) (suc (slot w)) n)
    window_across p q across n =
        subst (λ (u : Window). Onward p (slots_from (f ws) (slot u) n) q (slots_from (f ws) (suc (slot u)) n)) one.2
        (λ text old wr.
        slot_across ws placed (slot v) (omega arith) one.0 w one.1 v_here refl p q
        (subst (λ (u : Window). Across u.ipa u.span (λ i. granted_in (region_in base sup exempt u) (u.ipa + i)) p q) (sym one.2) across)
        ((entries - suc (slot v)) * l1_span + n) text old
        (subst (λ (rs : List Run). Written text old (page_of (resumed p.begun rs)) p.at p.page.now) (one_slot (f ws) (slot v) n (omega arith)) wr))

  -- past the last slot
  pub past_windows : (ws : List Window) → All (λ w. w.present ≡ true → Sited w) ws → (x : ℕ) → input_limit ≤ x → f ws x ≡ None
  past_windows ws sited x h = no_window x ws (all_past ws sited)
    where
      all_past : (vs : List Window) → All (λ w. w.present ≡ true → Sited w) vs → All (λ w. contains w x ≡ false) vs
      all_past [] a = tt
      all_past (v ∷ vs) a = (past_limit board_limit v x (λ p. (a.0 p).within) h, all_past vs a.1)

  pub past_slots : (ws : List Window) → Placed ws → (n : ℕ) → runs_from (f ws) input_limit (n + 0) ≡ []
  unfolding runs_from
  past_slots ws placed n = gap (f ws) n input_limit 0 (λ i h. past_windows ws placed.each (input_limit + i) (omega arith))
