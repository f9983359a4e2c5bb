-- No page is longer than the longest: a window has at most as many runs as pieces, and each window is met in one slot.
use Rattle.std.specs.Prelude.{Option, Some, None}
use Rattle.reach.specs.declared.Reach.{Reach}
use Prim.Native.Nat.{ℕ, zero, suc, ◌+◌, ◌-◌, ◌*◌, ◌/◌, ◌≤◌}
use mathlib.Core.Bool.{Bool, true, false, ◌&&◌}
use mathlib.Core.List.{List, [], ◌∷◌}
use mathlib.Core.Path.{◌≡◌, refl, ap, ◌∙◌}
use native.Mathlib.Nat.{le_refl}
use native.Mathlib.Omega.{arith}
use lib.Dec.{eqb, leb}
use lib.ListN.{length, get_or, length-append}
use borrow.Author.Tests.{leb-true, le-leb, lt-leb}
use Rattle.accepted_facts.proofs.Guarded.{guarded_facts}
use Rattle.accepted_facts.proofs.Windows.{super_within}
use Rattle.accepted_facts.specs.Accepted.{Accepted}
use Rattle.annex.proofs.Slots.{has}
use Rattle.annex.specs.Annex.{annex_runs}
use Rattle.annex.specs.Windows.{has_slot}
use Rattle.annex.specs.Writing.{piece_before}
use Rattle.annex_theorems.proofs.Computed.{piece_runs, window_runs, slot_runs, all_runs, whole_runs, computed_runs}
use Rattle.annex_theorems.specs.LongestPage.{image_lines, data_lines, super_lines, device_lines, LongestPage}
use Rattle.fields.specs.Named.{pick}
use Rattle.layout.specs.Size.{entries, page, block, board_limit}
use Rattle.layout.specs.Window.{image_window, data_window, super_window, devices_of, windows_of, slot}
use Rattle.layout.specs.declared.Layout.{Layout}
use Rattle.layout.specs.declared.Window.{Window}
use Rattle.perm.specs.Perm.{perm_code}
use Rattle.perm.specs.declared.Perm.TheVariants.{Rw, Rx}
use Rattle.refusal.specs.All.{All}
use Rattle.runs.proofs.Page.{line_length_lem, last_length, page_none, page_next}
use Rattle.runs.specs.Page.{line_length, run_line, page_of}
use Rattle.runs.specs.Runs.{goes_on, before}
use Rattle.runs.specs.declared.Run.{Run}
use Rattle.window_reach.specs.Granted.{by_entry}

-- a run before others is one more at most
one_more : (r : Run) (rs : List Run) → length (before r rs) ≤ suc (length rs)
unfolding before
one_more r [] = omega arith
one_more r (s ∷ rs) = go (goes_on r s) refl
  where
    go : (b : Bool) → goes_on r s ≡ b → length (before r (s ∷ rs)) ≤ suc (suc (length rs))
    go true e = rw e (omega arith)
    go false e = rw e (omega arith)

piece_more : (first last : ℕ) (r : Option Reach) (rs : List Run) → length (piece_before first last r rs) ≤ suc (length rs)
piece_more first last (Some r) rs = one_more _ rs
piece_more first last None rs = omega arith

pieces_more :
    (ipa pa size : ℕ) (exempt : Bool) (entry : ℕ → ℕ) (p n : ℕ) (rs : List Run) →
    length (piece_runs ipa pa size exempt entry p n rs) ≤ n + length rs
unfolding piece_runs
pieces_more ipa pa size exempt entry p zero rs = omega arith
pieces_more ipa pa size exempt entry p (suc n) rs =
    let x = ipa + p * size in
    let others = piece_runs ipa pa size exempt entry (suc p) n rs in
    let one = piece_more x (x + (size - 1)) (by_entry (pa + p * size) exempt (entry p)) others in
    omega (arith, one, pieces_more ipa pa size exempt entry (suc p) n rs)

-- the pieces of a window, by its code
abbrev pieces : Window → ℕ
pieces w = pick (eqb w.code 1) 1 (pick (eqb w.code 2) (w.span / page) (pick (eqb w.code 3) (w.span / block) 1))

-- those of a window whose slot is s or later
abbrev pieces_from : ℕ → Window → ℕ
pieces_from s w = pick (w.present && leb s (slot w)) (pieces w) 0

unfoldable all_from : ℕ → List Window → ℕ
all_from s [] = 0
all_from s (w ∷ ws) = pieces_from s w + all_from s ws

from_first : (w : Window) → pieces_from 0 w ≤ pieces w
from_first w = at_most (w.present && leb 0 (slot w))
  where
    at_most : (b : Bool) → pick b (pieces w) 0 ≤ pieces w
    at_most true = le_refl (pieces w)
    at_most false = omega arith

module _ (s : ℕ) (w : Window) where
  fewer : pieces_from (suc s) w ≤ pieces_from s w
  fewer = go w.present (leb (suc s) (slot w)) refl refl
    where
      go : (a b : Bool) → w.present ≡ a → leb (suc s) (slot w) ≡ b → pieces_from (suc s) w ≤ pieces_from s w
      go false b p q = rw p (omega arith)
      go true false p q = rw (p, q) (omega arith)
      go true true p q =
          let earlier = le-leb s (slot w) (omega (arith, leb-true (suc s) (slot w) q)) in rw (p, q, earlier) (le_refl (pieces w))

  -- past its slot a window has none
  past : has_slot s w ≡ true → pieces_from (suc s) w + pieces w ≤ pieces_from s w
  past e =
      let there = has s w e in
      let now = le-leb s (slot w) (omega (arith, there.1)) in
      let gone = lt-leb (suc s) (slot w) (omega (arith, there.1)) in
      rw (there.0, now, gone) (omega arith)

all_fewer : (s : ℕ) (ws : List Window) → all_from (suc s) ws ≤ all_from s ws
unfolding all_from
all_fewer s [] = omega arith
all_fewer s (w ∷ ws) = omega (arith, fewer s w, all_fewer s ws)

module _ (base sup : List ℕ) (exempt : Bool) where
  window_more : (w : Window) (rs : List Run) → length (window_runs base sup exempt w rs) ≤ pieces w + length rs
  unfolding window_runs
  window_more w rs = go (eqb w.code 1) (eqb w.code 2) (eqb w.code 3) refl refl refl
    where
      one : (entry : ℕ) → length (whole_runs w entry rs) ≤ 1 + length rs
      one entry = omega (arith, piece_more w.ipa (w.ipa + (w.span - 1)) (by_entry w.pa false entry) rs)

      go :
          (a b c : Bool) → eqb w.code 1 ≡ a → eqb w.code 2 ≡ b → eqb w.code 3 ≡ c →
          length (window_runs base sup exempt w rs) ≤ pieces w + length rs
      go true b c p q r = rw p (one (perm_code Rx))
      go false true c p q r =
          rw (p, q) (pieces_more w.ipa w.pa page false (λ p. get_or base p 0) 0 (w.span / page) rs)
      go false false true p q r =
          rw (p, q, r) (pieces_more w.ipa w.pa block exempt (λ p. get_or sup p 0) 0 (w.span / block) rs)
      go false false false p q r = rw (p, q, r) (one (perm_code Rw))

  slot_more :
      (s : ℕ) (ws : List Window) (rs : List Run) →
      length (slot_runs base sup exempt s ws rs) + all_from (suc s) ws ≤ length rs + all_from s ws
  unfolding slot_runs all_from
  slot_more s [] rs = omega arith
  slot_more s (w ∷ ws) rs = go (has_slot s w) refl (slot_more s ws rs)
    where
      go :
          (b : Bool) → has_slot s w ≡ b →
          length (slot_runs base sup exempt s ws rs) + all_from (suc s) ws ≤ length rs + all_from s ws →
          length (slot_runs base sup exempt s (w ∷ ws) rs) + all_from (suc s) (w ∷ ws) ≤ length rs + all_from s (w ∷ ws)
      go true e others = rw e (omega (arith, window_more w rs, past s w e, all_fewer s ws))
      go false e others = rw e (omega (arith, fewer s w, others))

  all_more : (ws : List Window) (n s : ℕ) → length (all_runs base sup exempt ws s n) ≤ all_from s ws
  unfolding all_runs
  all_more ws zero s = omega arith
  all_more ws (suc n) s =
      omega (arith, slot_more s ws (all_runs base sup exempt ws (suc s) n), all_more ws n (suc s))

-- a layout's windows
image_pieces : (i : Option ℕ) → pieces (image_window i) ≡ image_lines
image_pieces (Some pa) = refl
image_pieces None = refl

one_each : (ws : List Window) → All (λ w. pieces w ≡ 1) ws → all_from 0 ws ≤ length ws
unfolding all_from
one_each [] a = omega arith
one_each (w ∷ ws) a = omega (arith, from_first w, a.0, one_each ws a.1)

device_pieces : (l : Layout) → all_from 0 (devices_of l) ≤ device_lines
device_pieces l = one_each (devices_of l) (refl, tt)

layout_pieces : (l : Layout) → Accepted board_limit l → all_from 0 (windows_of l) ≤ image_lines + data_lines + super_lines + device_lines
unfolding all_from
layout_pieces l facts =
    let supers : l.sup_frames * block / block ≤ super_lines = omega (arith, (super_within facts).inside) in
    omega (
      arith,
      from_first (image_window l.guest_image_pa),
      image_pieces l.guest_image_pa,
      from_first (data_window l),
      from_first (super_window l),
      supers,
      device_pieces l,
    )

pub page_length : (rs : List Run) → length (page_of rs) ≡ suc (length rs) * line_length
page_length [] = ap length page_none ∙ last_length
page_length (r ∷ rs) =
    ap length (page_next r rs)
    ∙ length-append (run_line r) (page_of rs)
    ∙ omega (arith, line_length_lem r, page_length rs)

pub longest_page_lem : LongestPage
longest_page_lem l base sup let_by =
    let runs = annex_runs l base sup in
    let facts = (guarded_facts board_limit base sup l let_by).layout in
    omega (
      arith,
      page_length runs,
      ap length (computed_runs l base sup let_by),
      all_more base sup l.sup_wx_exempt (windows_of l) entries 0,
      layout_pieces l facts,
    )
