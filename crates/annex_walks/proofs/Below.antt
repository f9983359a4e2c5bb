-- What windows grant lies below the limit of outputs, and is Ro or Rw.
use Rattle.std.specs.Prelude.{Some, None}
use Prim.Native.Nat.{ℕ, ◌+◌, ◌-◌, ◌/◌, ◌<◌}
use mathlib.Core.Bool.{Bool, true, false}
use mathlib.Core.List.{List, [], ◌∷◌}
use mathlib.Core.Path.{◌≡◌, refl, sym, ap, subst, ◌∙◌}
use native.Mathlib.Omega.{arith}
use lib.Dec.{eqb}
use Rattle.annex.proofs.Slots.{region_window, first_window_lem}
use Rattle.annex.specs.Windows.{region_in, granted_over, Sited}
use Rattle.fields.specs.Named.{pick}
use Rattle.layout.specs.Size.{board_limit}
use Rattle.layout.specs.declared.Window.{Window}
use Rattle.perm.specs.Perm.{perm_code}
use Rattle.perm.specs.declared.Perm.TheVariants.{Ro, Rw, Rx}
use Rattle.reach.specs.declared.Reach.{Reach}
use Rattle.refusal.specs.All.{All}
use Rattle.runs_theorems.proofs.Reach.{reached≢nothing, same_reach}
use Rattle.window_reach.proofs.Contains.{inside}
use Rattle.window_reach.specs.Granted.{Region, contains, by_entry, granted_by, granted_in}

by_entry_output : (pa : ℕ) (exempt : Bool) (e : ℕ) (a : Reach) → by_entry pa exempt e ≡ Some a → a.pa ≡ pa
by_entry_output pa exempt e a is = go (eqb e 1) (eqb e 2) (eqb e 3) refl refl refl is
  where
    of : (b : Reach) → Some b ≡ Some a → a.pa ≡ b.pa
    of b e = sym (ap (λ (r : Reach). r.pa) (same_reach b a e))

    go :
        (s t u : Bool) → eqb e 1 ≡ s → eqb e 2 ≡ t → eqb e 3 ≡ u → by_entry pa exempt e ≡ Some a → a.pa ≡ pa
    go true t u p q r is = of _ (rw p at is)
    go false true u p q r is = of _ (rw (p, q) at is)
    go false false true p q r is = of _ (rw (p, q, r) at is)
    go false false false p q r is = absurd (reached≢nothing a (sym (rw (p, q, r) at is)))

-- no access is Rx: an Rx entry is Ro, and executable
by_entry_access : (pa : ℕ) (exempt : Bool) (e : ℕ) (a : Reach) → by_entry pa exempt e ≡ Some a → a.perm ≡ Rx → ⊥
by_entry_access pa exempt e a is = go (eqb e 1) (eqb e 2) (eqb e 3) refl refl refl is
  where
    of : (b : Reach) → Some b ≡ Some a → (b.perm ≡ Rx → ⊥) → a.perm ≡ Rx → ⊥
    of b e none rx = none (ap (λ (r : Reach). r.perm) (same_reach b a e) ∙ rx)

    ro : Ro ≡ Rx → ⊥
    ro q = omega (arith, ap perm_code q)

    rw_access : Rw ≡ Rx → ⊥
    rw_access q = omega (arith, ap perm_code q)

    go :
        (s t u : Bool) → eqb e 1 ≡ s → eqb e 2 ≡ t → eqb e 3 ≡ u → by_entry pa exempt e ≡ Some a → a.perm ≡ Rx → ⊥
    go true t u p q r is = of _ (rw p at is) ro
    go false true u p q r is = of _ (rw (p, q) at is) rw_access
    go false false true p q r is = of _ (rw (p, q, r) at is) ro
    go false false false p q r is = absurd (reached≢nothing a (sym (rw (p, q, r) at is)))

module _ (base sup : List ℕ) (exempt : Bool) (x : ℕ) (a : Reach) where
  -- by the window that grants it, and an entry
  by_window :
      (Q : Type 0) →
      ((w : Window) → Sited w → contains w x ≡ true →
      (some : Bool) (e : ℕ) → by_entry (w.pa + (x - w.ipa)) some e ≡ Some a → Q) →
      (ws : List Window) → All (λ w. w.present ≡ true → Sited w) ws → granted_over base sup exempt ws x ≡ Some a → Q
  unfolding granted_by
  by_window Q says [] sited is = absurd (reached≢nothing a (sym is))
  by_window Q says (w ∷ ws) sited is = go (contains w x) refl (by_window Q says ws sited.1)
    where
      r : Region
      r = region_in base sup exempt w

      of : (b : Bool) → contains w x ≡ b → pick b (granted_in r x) (granted_over base sup exempt ws x) ≡ Some a
      of b e =
          ap (λ t. pick t (granted_in r x) (granted_over base sup exempt ws x)) (sym e) ∙ sym (first_window_lem base sup exempt x w ws) ∙ is

      go : (b : Bool) → contains w x ≡ b → (granted_over base sup exempt ws x ≡ Some a → Q) → Q
      go true e later =
          let entry = r.entry ((x - r.window.ipa) / r.piece) in
          let here = subst (λ (v : Window). by_entry (v.pa + (x - v.ipa)) r.exempt entry ≡ Some a) (region_window base sup exempt w)
          (of true e) in
          says w (sited.0 (inside w x e).there) e r.exempt entry here
      go false e later = later (of false e)

  module _ (ws : List Window) (sited : All (λ w. w.present ≡ true → Sited w) ws) (is : granted_over base sup exempt ws x ≡ Some a) where
    pub output_below : a.pa < board_limit
    output_below =
        by_window (a.pa < board_limit)
        (λ w s e some entry here.
        let at = by_entry_output (w.pa + (x - w.ipa)) some entry a here in
        omega (arith, at, (inside w x e).before, s.within.output))
        ws sited is

    pub not_rx : a.perm ≡ Rx → ⊥
    not_rx = by_window (a.perm ≡ Rx → ⊥) (λ w s e some entry here. by_entry_access (w.pa + (x - w.ipa)) some entry a here) ws sited is
