-- Row 27, where no other refuses; and rows 2 to 14, where one does.
use Prim.Native.Nat.{ℕ, ◌≤◌, ◌<◌}
use mathlib.Core.List.{List, [], ◌++◌, flat_map}
use mathlib.Core.Path.{◌≡◌, refl, sym, ap, ◌∙◌}
use native.Mathlib.Omega.{arith}
use lib.ListN.{length}
use borrow.Author.Tests.{lt-ltb, le-ltb}
use Rattle.annex.specs.Annex.{annex_page, row27, annex_rows, annex_outcome, annex_left, AnnexAnswer}
use Rattle.layout.specs.Size.{board_limit}
use Rattle.layout.specs.declared.Layout.{Layout}
use Rattle.refusal.proofs.None.{none}
use Rattle.refusal.proofs.Sequence.{in_turn}
use Rattle.refusal.specs.Table.{Row, row, accepted, refused, first}
use Rattle.refusal.specs.Told.{Told, denied, after}
use Rattle.rows.specs.Rows.{guard_rows}

module _ (l : Layout) (base sup buffer : List ℕ) (let_by : first (guard_rows board_limit base sup l) ≡ accepted) where
  abbrev page : List ℕ
  page = annex_page l base sup

  alone : annex_outcome buffer base sup l ≡ first (row27 page buffer ++ [])
  unfolding annex_rows flat_map
  alone = ap (λ rs. first (rs ++ (row27 page buffer ++ []))) (none (guard_rows board_limit base sup l) let_by)

  pub too_long : length buffer < length page → annex_outcome buffer base sup l ≡ refused (row 27 [])
  unfolding row27 first
  too_long h = alone ∙ rw (lt-ltb _ _ h) refl

  pub fits : length page ≤ length buffer → annex_outcome buffer base sup l ≡ accepted
  unfolding row27 first
  fits h = alone ∙ rw (le-ltb _ _ h) refl

module _ (l : Layout) (base sup buffer : List ℕ) where
  refused_first : (r : Row) → refused r ≡ first (guard_rows board_limit base sup l) → annex_outcome buffer base sup l ≡ refused r
  unfolding annex_rows
  refused_first r e = grind (arith, in_turn)

  pub denied_first :
      (answer : Told ℕ) (r : Row) → answer ≡ denied r → refused r ≡ first (guard_rows board_limit base sup l) →
      AnnexAnswer l base sup buffer answer buffer
  denied_first answer r told e =
      let refuses = refused_first r e in
      record {
        tells = told ∙ sym (ap (λ o. after o (length (annex_page l base sup))) refuses);
        buffer = sym (ap (λ o. annex_left o (annex_page l base sup) buffer) refuses);
      }
