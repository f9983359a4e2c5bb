-- Over the addresses of a window: by one entry, or by the entry of each piece.
use Rattle.std.specs.Prelude.{Option}
use Rattle.reach.specs.declared.Reach.{Reach}
use Prim.Native.Nat.{ℕ, ◌+◌, ◌-◌, ◌/◌, ◌%◌, ◌≤◌, ◌<◌}
use mathlib.Core.Bool.{Bool, false}
use mathlib.Core.List.{List}
use mathlib.Core.Path.{◌≡◌, ap, subst, ◌∙◌}
use native.Mathlib.Omega.{arith}
use lib.ListN.{get_or}
use borrow.Author.Tests.{eq-eqb, ne_eqb}
use Rattle.accepted_facts.specs.Accepted.{Within}
use Rattle.annex.specs.Windows.{region_in}
use Rattle.annex.specs.Onward.{Onward, Across}
use Rattle.annex.specs.Writing.{resumed, Written, piece_before}
use Rattle.annex.specs.declared.Writer.{Writer}
use Rattle.annex.proofs.Pieces.{one_entry}
use Rattle.layout.specs.Size.{page, block, input_limit, board_limit}
use Rattle.layout.specs.declared.Window.{Window}
use Rattle.perm.specs.Perm.{perm_code}
use Rattle.perm.specs.declared.Perm.TheVariants.{Rx}
use Rattle.runs.specs.Page.{page_of}
use Rattle.runs.specs.Runs.{runs_from}
use Rattle.runs.specs.declared.Run.{Run}
use Rattle.window_reach.specs.Granted.{Region, region, device_region, by_entry, granted_in}

-- by the offset in the window
pub granted_at : (r : Region) (i : ℕ) → granted_in r (r.window.ipa + i) ≡ by_entry (r.window.pa + i) r.exempt (r.entry (i / r.piece))
granted_at r i =
    let away : r.window.ipa + i - r.window.ipa ≡ i = omega arith in
    ap (λ (d : ℕ). by_entry (r.window.pa + d) r.exempt (r.entry (d / r.piece))) away

-- the region of a window, by its code
module _ (base sup : List ℕ) (exempt : Bool) (w : Window) where
  pub image_region_lem : w.code ≡ 1 → region_in base sup exempt w ≡ region w block (λ p. perm_code Rx) false
  image_region_lem e = rw (eq-eqb _ _ e)

  pub data_region_lem : w.code ≡ 2 → region_in base sup exempt w ≡ region w page (λ p. get_or base p 0) false
  data_region_lem e = rw e

  pub super_region_lem : w.code ≡ 3 → region_in base sup exempt w ≡ region w block (λ p. get_or sup p 0) exempt
  super_region_lem e = rw e

  pub device_region_lem : (w.code ≡ 1 → ⊥) → (w.code ≡ 2 → ⊥) → (w.code ≡ 3 → ⊥) → region_in base sup exempt w ≡ device_region w
  device_region_lem a b c = rw (ne_eqb _ _ a, ne_eqb _ _ b, ne_eqb _ _ c)

pub input_ends : (w : Window) → Within board_limit w → w.ipa + w.span ≤ input_limit
input_ends w v = omega (arith, v.below, v.inside)

pub block_some : (span : ℕ) → span % block ≡ 0 → 0 < span → page ≤ span
block_some span a b = omega arith

module _ (p q : Writer) (ipa span : ℕ) (grants : ℕ → Option Reach) where
  pub across_one :
      (pa : ℕ) (exempt : Bool) (e : ℕ) → 0 < span → ((i : ℕ) → grants i ≡ by_entry (pa + i) exempt e) →
      ((rs : List Run) → Onward p (piece_before ipa (ipa + (span - 1)) (by_entry pa exempt e) rs) q rs) → Across ipa span grants p q
  across_one pa exempt e some is onward f n granted text old w =
      onward (runs_from f (ipa + span) n) text old
      (subst (λ (rs : List Run). Written text old (page_of (resumed p.begun rs)) p.at p.page.now)
      (one_entry f ipa span n some pa exempt e (λ i h. granted i h ∙ is i)) w)

  pub across_same :
      (span₂ : ℕ) (grants₂ : ℕ → Option Reach) → span₂ ≡ span → ((i : ℕ) → grants i ≡ grants₂ i) →
      Across ipa span₂ grants₂ p q → Across ipa span grants p q
  across_same span₂ grants₂ long is across =
      subst (λ (s : ℕ). Across ipa s grants p q) long (λ f n granted. across f n (λ i h. granted i h ∙ is i))
