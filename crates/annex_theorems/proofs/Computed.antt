-- The runs of an accepted layout, computed window by window: slot by slot of table 1, and each window by its pieces.
use Rattle.std.specs.Prelude.{Option}
use Rattle.reach.specs.declared.Reach.{Reach}
use Prim.Native.Nat.{ℕ, zero, suc, ◌+◌, ◌-◌, ◌*◌, ◌/◌, ◌<◌}
use mathlib.Core.Bool.{Bool, true, false}
use mathlib.Core.List.{List, [], ◌∷◌}
use mathlib.Core.Path.{◌≡◌, refl, sym, ap, ap₂, ◌∙◌}
use native.Mathlib.Omega.{arith}
use lib.Dec.{eqb}
use lib.ListN.{length, get_or}
use borrow.Author.Tests.{eqb-true, eqb-false}
use Rattle.accepted_facts.proofs.Guarded.{guarded_facts}
use Rattle.annex.proofs.Across.{granted_at, image_region_lem, data_region_lem, super_region_lem, device_region_lem}
use Rattle.annex.proofs.Pieces.{one_entry, on_from, from_first, from_last, next_piece}
use Rattle.annex.proofs.Placed.{placed, grants}
use Rattle.annex.proofs.Slots.{has, empty_slot, to_it, from_it, in_it, past_slots}
use Rattle.annex.specs.Annex.{address_count, annex_runs}
use Rattle.annex.specs.Windows.{region_in, granted_over, has_slot, Sited, Placed}
use Rattle.annex.specs.Writing.{piece_before}
use Rattle.fields.specs.Named.{pick}
use Rattle.layout.specs.Size.{entries, page, block, l1_span, input_limit, board_limit}
use Rattle.layout.specs.Window.{windows_of}
use Rattle.layout.specs.declared.Layout.{Layout}
use Rattle.layout.specs.declared.Window.{Window}
use Rattle.perm.specs.Perm.{perm_code}
use Rattle.perm.specs.declared.Perm.TheVariants.{Rw, Rx}
use Rattle.refusal.proofs.All.{all_at}
use Rattle.refusal.specs.All.{All}
use Rattle.refusal.specs.Table.{accepted, first}
use Rattle.rows.specs.Rows.{guard_rows}
use Rattle.runs.specs.Runs.{runs_from}
use Rattle.runs.specs.declared.Run.{Run}
use Rattle.window_reach.specs.Granted.{Region, region, by_entry, granted_in}

-- n pieces of one size from piece p on, each by its entry, before the runs that follow
unfoldable pub piece_runs : ℕ → ℕ → ℕ → Bool → (ℕ → ℕ) → ℕ → ℕ → List Run → List Run
piece_runs ipa pa size exempt entry p zero rs = rs
piece_runs ipa pa size exempt entry p (suc n) rs =
    let x = ipa + p * size in
    piece_before x (x + (size - 1)) (by_entry (pa + p * size) exempt (entry p)) (piece_runs ipa pa size exempt entry (suc p) n rs)

-- all bytes of a window by one entry
abbrev pub whole_runs : Window → ℕ → List Run → List Run
whole_runs w entry rs = piece_before w.ipa (w.ipa + (w.span - 1)) (by_entry w.pa false entry) rs

-- a window, by its code: image, data, super, or a device
unfoldable pub window_runs : List ℕ → List ℕ → Bool → Window → List Run → List Run
window_runs base sup exempt w rs =
    pick (eqb w.code 1) (whole_runs w (perm_code Rx) rs)
    (pick (eqb w.code 2) (piece_runs w.ipa w.pa page false (λ p. get_or base p 0) 0 (w.span / page) rs)
    (pick (eqb w.code 3) (piece_runs w.ipa w.pa block exempt (λ p. get_or sup p 0) 0 (w.span / block) rs)
    (whole_runs w (perm_code Rw) rs)))

-- the window that has a slot, before the runs that follow
unfoldable pub slot_runs : List ℕ → List ℕ → Bool → ℕ → List Window → List Run → List Run
slot_runs base sup exempt s [] rs = rs
slot_runs base sup exempt s (w ∷ ws) rs =
    pick (has_slot s w) (window_runs base sup exempt w rs) (slot_runs base sup exempt s ws rs)

-- n slots from s on
unfoldable pub all_runs : List ℕ → List ℕ → Bool → List Window → ℕ → ℕ → List Run
all_runs base sup exempt ws s zero = []
all_runs base sup exempt ws s (suc n) = slot_runs base sup exempt s ws (all_runs base sup exempt ws (suc s) n)

-- over pieces
module _
    (f : ℕ → Option Reach) (ipa count size n pa : ℕ) (exempt : Bool) (entry : ℕ → ℕ) (some : 0 < size)
    (grants : (i : ℕ) → i < count * size → f (ipa + i) ≡ by_entry (pa + i) exempt (entry (i / size)))
  where
    from_piece :
        (k p : ℕ) → p + k ≡ count →
        on_from f ipa count size n p ≡ piece_runs ipa pa size exempt entry p k (runs_from f (ipa + count * size) n)
    unfolding piece_runs
    from_piece zero p e =
        let last : p ≡ count = omega (arith, e) in ap (on_from f ipa count size n) last ∙ from_last f ipa count size n
    from_piece (suc k) p e =
        let x = ipa + p * size in
        next_piece f ipa count size n pa exempt entry some grants p (omega (arith, e))
        ∙ ap (piece_before x (x + (size - 1)) (by_entry (pa + p * size) exempt (entry p))) (from_piece k (suc p) (omega (arith, e)))

    piece_runs_lem : runs_from f ipa (count * size + n) ≡ piece_runs ipa pa size exempt entry 0 count (runs_from f (ipa + count * size) n)
    piece_runs_lem = from_first f ipa count size n ∙ from_piece count 0 (omega arith)

module _ (base sup : List ℕ) (exempt : Bool) where
  -- over a window
  module _
      (f : ℕ → Option Reach) (w : Window) (sited : Sited w) (n : ℕ)
      (granted : (j : ℕ) → j < w.span → f (w.ipa + j) ≡ granted_in (region_in base sup exempt w) (w.ipa + j))
    where
      -- by the offset, in the region that the window is
      in_region :
          (r : Region) → r.window ≡ w → region_in base sup exempt w ≡ r →
          (j : ℕ) → j < w.span → f (w.ipa + j) ≡ by_entry (w.pa + j) r.exempt (r.entry (j / r.piece))
      in_region r same is j less =
          granted j less
          ∙ ap (λ (v : Region). granted_in v (w.ipa + j)) is
          ∙ ap (λ (v : Window). granted_in r (v.ipa + j)) (sym same)
          ∙ granted_at r j
          ∙ ap (λ (v : Window). by_entry (v.pa + j) r.exempt (r.entry (j / r.piece))) same

      in_pieces :
          (size : ℕ) (exempt₂ : Bool) (entry : ℕ → ℕ) → 0 < size → w.span / size * size ≡ w.span →
          region_in base sup exempt w ≡ region w size entry exempt₂ →
          runs_from f w.ipa (w.span + n)
          ≡ piece_runs w.ipa w.pa size exempt₂ entry 0 (w.span / size) (runs_from f (w.ipa + w.span) n)
      in_pieces size exempt₂ entry some whole is =
          let count = w.span / size in
          ap (λ (k : ℕ). runs_from f w.ipa (k + n)) (sym whole)
          ∙ piece_runs_lem f w.ipa count size n w.pa exempt₂ entry some
          (λ i h. in_region (region w size entry exempt₂) refl is i (omega (arith, h, whole)))
          ∙ ap (λ (k : ℕ). piece_runs w.ipa w.pa size exempt₂ entry 0 count (runs_from f (w.ipa + k) n)) whole

      as_one :
          (entry : ℕ) → 0 < w.span → region_in base sup exempt w ≡ region w block (λ p. entry) false →
          runs_from f w.ipa (w.span + n) ≡ whole_runs w entry (runs_from f (w.ipa + w.span) n)
      as_one entry some is =
          one_entry f w.ipa w.span n some w.pa false entry (in_region (region w block (λ p. entry) false) refl is)

      pub window_runs_lem :
          runs_from f w.ipa (w.span + n) ≡ window_runs base sup exempt w (runs_from f (w.ipa + w.span) n)
      unfolding window_runs
      window_runs_lem = go (eqb w.code 1) (eqb w.code 2) (eqb w.code 3) refl refl refl
        where
          go :
              (a b c : Bool) → eqb w.code 1 ≡ a → eqb w.code 2 ≡ b → eqb w.code 3 ≡ c →
              runs_from f w.ipa (w.span + n) ≡ window_runs base sup exempt w (runs_from f (w.ipa + w.span) n)
          go true b c p q r =
              let code = eqb-true _ _ p in
              rw p
              (as_one (perm_code Rx) (sited.some (λ e. omega (arith, code, e)) (λ e. omega (arith, code, e)))
              (image_region_lem base sup exempt w code))
          go false true c p q r =
              let code = eqb-true _ _ q in
              rw (p, q)
              (in_pieces page false (λ p. get_or base p 0) (omega arith) (omega (arith, sited.pages code))
              (data_region_lem base sup exempt w code))
          go false false true p q r =
              let code = eqb-true _ _ r in
              rw (p, q, r)
              (in_pieces block exempt (λ p. get_or sup p 0) (omega arith) (omega (arith, sited.blocks (λ e. omega (arith, code, e))))
              (super_region_lem base sup exempt w code))
          go false false false p q r =
              let not-data = eqb-false _ _ q in
              let not-super = eqb-false _ _ r in
              rw (p, q, r)
              (as_one (perm_code Rw) (sited.some not-data not-super)
              (device_region_lem base sup exempt w (eqb-false _ _ p) not-data not-super))

  -- by the first window of the list that has the slot
  first_among :
      (s : ℕ) (d : Window) (vs : List Window) (whole later : List Run) →
      (All (λ w. has_slot s w ≡ false) vs → whole ≡ later) →
      ((i : ℕ) → i < length vs → has_slot s (get_or vs i d) ≡ true → whole ≡ window_runs base sup exempt (get_or vs i d) later) →
      whole ≡ slot_runs base sup exempt s vs later
  unfolding slot_runs
  first_among s d [] whole later none one = none tt
  first_among s d (v ∷ vs) whole later none one =
      go (has_slot s v) refl (λ e. first_among s d vs whole later (λ a. none (e, a)) (λ i h. one (suc i) (omega (arith, h))))
    where
      go :
          (b : Bool) → has_slot s v ≡ b → (has_slot s v ≡ false → whole ≡ slot_runs base sup exempt s vs later) →
          whole ≡ slot_runs base sup exempt s (v ∷ vs) later
      go true e others = rw e (one 0 (omega arith) e)
      go false e others = rw e (others e)

  module _ (ws : List Window) (sites : Placed ws) where
    abbrev f : ℕ → Option Reach
    f = granted_over base sup exempt ws

    abbrev absent : Window
    absent = record { code = 0; present = false; ipa = 0; pa = 0; span = 0 }

    slot_runs_lem :
        (s : ℕ) → s < entries → (n : ℕ) →
        runs_from f (s * l1_span) (l1_span + n) ≡ slot_runs base sup exempt s ws (runs_from f (suc s * l1_span) n)
    slot_runs_lem s few n =
        first_among s absent ws _ _ (λ none. empty_slot base sup exempt ws sites s few none n)
        (λ i h e.
        let w = get_or ws i absent in
        let here = has s w e in
        let sited = all_at (λ v. v.present ≡ true → Sited v) ws i absent h sites.each here.0 in
        to_it base sup exempt ws sites s few i absent h here.0 here.1 n
        ∙ window_runs_lem f w sited _ (in_it base sup exempt ws sites s few i absent h here.0 here.1)
        ∙ ap (window_runs base sup exempt w) (from_it base sup exempt ws sites s few i absent h here.0 here.1 n))

    from_slot :
        (m k s : ℕ) → s + k ≡ entries → runs_from f (s * l1_span) (k * l1_span + m) ≡ all_runs base sup exempt ws s k
    unfolding all_runs
    from_slot m zero s e =
        let last : s * l1_span ≡ input_limit = omega (arith, e) in
        let all : 0 * l1_span + m ≡ m + 0 = omega arith in
        ap₂ (runs_from f) last all ∙ past_slots base sup exempt ws sites m
    from_slot m (suc k) s e =
        let one_less : suc k * l1_span + m ≡ l1_span + (k * l1_span + m) = omega arith in
        ap (runs_from f (s * l1_span)) one_less
        ∙ slot_runs_lem s (omega (arith, e)) (k * l1_span + m)
        ∙ ap (slot_runs base sup exempt s ws) (from_slot m k (suc s) (omega (arith, e)))

    pub computed : runs_from f 0 address_count ≡ all_runs base sup exempt ws 0 entries
    computed = from_slot (address_count - input_limit) entries 0 refl

-- of an accepted layout
pub computed_runs :
    (l : Layout) (base sup : List ℕ) → first (guard_rows board_limit base sup l) ≡ accepted →
    annex_runs l base sup ≡ all_runs base sup l.sup_wx_exempt (windows_of l) 0 entries
unfolding annex_runs
computed_runs l base sup let_by =
    ap (λ (g : ℕ → Option Reach). runs_from g 0 address_count) (grants l base sup)
    ∙ computed base sup l.sup_wx_exempt (windows_of l) (placed l (guarded_facts board_limit base sup l let_by).layout)
