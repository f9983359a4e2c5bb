-- Row 14 is nowhere where no super is mapped at or past sup_frames.
use Rattle.std.proofs.Common.{◌≡◌, sym, arith, ℕ, ◌+◌, ◌-◌, ◌≤◌, eqb, leb, true, false, Bool, refl, List, [], drop, get_or}
use Rattle.std.proofs.Math.Seq.{get_or-drop}
use borrow.Author.Tests.{eqb-true, eqb-false, leb-true}
use Rattle.map_entries.proofs.Larger.{at_most}
use Rattle.map_entries.specs.Larger.{largest}
use Rattle.refusal.proofs.None.{accept, from_nowhere}
use Rattle.refusal.specs.Table.{accepted, first, each_from}
use Rattle.rows.specs.Rows.{row14}

pub no_row14 : (frames p byte : ℕ) → (frames ≤ p → byte ≡ 0) → row14 frames p byte ≡ []
unfolding row14
no_row14 frames p byte past = go (eqb byte 0) refl (leb frames p) refl
  where
    go : (a : Bool) → eqb byte 0 ≡ a → (b : Bool) → leb frames p ≡ b → row14 frames p byte ≡ []
    go true s b t = rw s
    go false s true t = absurd (eqb-false byte 0 s (past (leb-true frames p t)))
    go false s false t = rw (s, t)

pub all_backed : (frames : ℕ) (sup : List ℕ) → eqb (largest (drop frames sup)) 0 ≡ true → accepted ≡ first (each_from (row14 frames) 0 sup)
all_backed frames sup e = sym (accept _ (from_nowhere (row14 frames) sup 0 (λ p inside. no_row14 frames p (get_or sup p 0) (zero p))))
  where
    zero : (p : ℕ) → frames ≤ p → get_or sup p 0 ≡ 0
    zero p past =
        let at : frames + (p - frames) ≡ p = omega arith in
        let here : get_or sup p 0 ≤ 0 = rw (get_or-drop, at) at (at_most (drop frames sup) 0 (sym (eqb-true _ _ e)) (p - frames)) in
        omega arith
