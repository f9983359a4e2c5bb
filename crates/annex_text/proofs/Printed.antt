-- What is printed, by what `annex` answers: the buffer has room for every page, so that row 27 does not apply.
use Prim.Native.Nat.{ℕ, ◌≤◌}
use mathlib.Core.List.{List, [], ◌∷◌, ◌++◌, flat_map}
use mathlib.Core.Path.{◌≡◌, refl, sym, ap, subst, ◌∙◌}
use native.Mathlib.Omega.{arith}
use lib.ListN.{length}
use Rattle.annex.proofs.Rows.{fits}
use Rattle.annex.specs.Annex.{annex_page, row27, annex_rows, annex_outcome, annex_left, AnnexAnswer}
use Rattle.annex_text.specs.Text.{annex_by}
use Rattle.annex_theorems.proofs.LongestPage.{longest_page_lem}
use Rattle.annex_theorems.specs.LongestPage.{longest_page}
use Rattle.layout.specs.Size.{board_limit}
use Rattle.layout.specs.declared.Layout.{Layout}
use Rattle.printed.specs.Line.{refused_line, Puts}
use Rattle.refusal.specs.Table.{Row, Outcome, accepted, refused, first}
use Rattle.refusal.specs.Told.{told, denied, after}
use Rattle.rows.specs.Rows.{guard_rows}

-- by the outcome
written :
    (o : Outcome) (page old : List ℕ) (n : ℕ) (new : List ℕ) →
    told n ≡ after o (length page) → new ≡ annex_left o page old → Puts (annex_by o page) old n new
written accepted page old n new t b = record { long = cc; bytes = b }
written (refused r) page old n new t b = absurd (let z : ◌≡◌ {A = ℕ} 0 1 = cc in omega arith)

refuses :
    (o : Outcome) (page old : List ℕ) (r : Row) (new : List ℕ) →
    denied r ≡ after o (length page) → new ≡ annex_left o page old → (o ≡ refused r) × (new ≡ old)
refuses accepted page old r new t b = absurd (let z : ◌≡◌ {A = ℕ} 0 1 = cc in omega arith)
refuses (refused q) page old r new t b = (cc, b)

module _ (l : Layout) (base sup old : List ℕ) (room : length old ≡ longest_page) where
  enough : longest_page ≤ length old
  enough = omega (arith, room)

  abbrev rows : List Row
  rows = guard_rows board_limit base sup l

  abbrev page : List ℕ
  page = annex_page l base sup

  -- rows 2 to 14 alone
  outcome : annex_outcome old base sup l ≡ first rows
  unfolding annex_rows flat_map first
  outcome = go rows refl
    where
      go : (rs : List Row) → rows ≡ rs → annex_outcome old base sup l ≡ first rows
      go [] e = fits l base sup old (ap first e) (omega (arith, longest_page_lem l base sup (ap first e))) ∙ sym (ap first e)
      go (r ∷ rs) e = ap (λ (x : List Row). first (x ++ (row27 page old ++ []))) e ∙ sym (ap first e)

  pub page_printed : (n : ℕ) (new : List ℕ) → AnnexAnswer l base sup old (told n) new → Puts (annex_by (first rows) page) old n new
  page_printed n new a =
      written (first rows) page old n new
      (a.tells ∙ ap (λ (o : Outcome). after o (length page)) outcome)
      (a.buffer ∙ ap (λ (o : Outcome). annex_left o page old) outcome)

  pub row_printed :
      (r : Row) (left : List ℕ) → AnnexAnswer l base sup old (denied r) left →
      (n : ℕ) (new : List ℕ) → Puts (refused_line r.number) left n new → Puts (annex_by (first rows) page) old n new
  row_printed r left a n new p =
      let refuses = refuses (first rows) page old r left
      (a.tells ∙ ap (λ (o : Outcome). after o (length page)) outcome)
      (a.buffer ∙ ap (λ (o : Outcome). annex_left o page old) outcome) in
      subst (λ (o : Outcome). Puts (annex_by o page) old n new) (sym refuses.0)
      (subst (λ (b : List ℕ). Puts (refused_line r.number) b n new) refuses.1 p)
