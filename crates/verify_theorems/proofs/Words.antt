-- The leaves that encoding leaves for an accepted layout and maps, as verification reads them: each is the one that is wanted.
use Rattle.std.specs.Prelude.{Some, None}
use Prim.Native.Nat.{ℕ, ◌+◌, ◌-◌, ◌*◌, ◌/◌, ◌%◌, ◌≤◌, ◌<◌}
use mathlib.Core.Bool.{Bool, true, false, ◌&&◌}
use mathlib.Core.List.{List}
use mathlib.Core.Path.{◌≡◌, refl, sym, ap, ◌∙◌}
use native.Mathlib.Omega.{arith}
use lib.Dec.{eqb, leb, ltb}
use lib.ListN.{length, get_or, get_or-eq_default}
use borrow.Author.Tests.{eqb-true, eqb-false, leb-true, leb-false, ltb-true, ltb-false, le-leb, lt-ltb, le-ltb}
use Rattle.accepted_facts.proofs.Windows.{super_within}
use Rattle.accepted_facts.specs.Guarded.{Guarded}
use Rattle.arena.proofs.Runs.{run_before, run_past, run_inside}
use Rattle.arena.specs.Encoded.{super_at, super_run, device_run, word_at}
use Rattle.arena.specs.Word.{device_to}
use Rattle.decode.proofs.Emitted.{emitted_decodes}
use Rattle.decode.specs.Decoded.{decoded_device}
use Rattle.desc.specs.Descriptor.{page_address, block_address}
use Rattle.fields.specs.Named.{pick}
use Rattle.layout.specs.Size.{entries, page, block, board_limit, first_word}
use Rattle.layout.specs.Window.{device_window, l2_slot}
use Rattle.layout.specs.declared.Layout.{Layout}
use Rattle.layout.specs.declared.Window.{Window}
use Rattle.target_word.proofs.Place.{in_4, in_5, in_6}
use Rattle.verify_rows.proofs.Read.{held_block, page_read, block_read}
use Rattle.verify_rows.specs.Verifying.{slot_address, window_holds, wanted_block}
use Rattle.verify_rows.specs.Word.{read_page, read_block, wanted_leaf}
use Rattle.verify_theorems.specs.Verified.{encoded_word}

module _ (base sup : List ℕ) (l : Layout) (g : Guarded board_limit base sup l) where
  pub page_wanted :
      (m : ℕ) → m < entries →
      read_page (encoded_word l base sup 4 m)
      ≡ wanted_leaf (get_or base m 0) (page_address (l.data_pa_base + m * page)) false
  page_wanted m h = ap read_page (in_4 l base sup m h) ∙ page_read (get_or base m 0) (l.data_pa_base + m * page)

  -- a super at or past sup_frames is unmapped
  unbacked : (m : ℕ) → l.sup_frames ≤ m → get_or sup m 0 ≡ 0
  unbacked m past = go (ltb m (length sup)) (eqb (get_or sup m 0) 0) refl refl
    where
      go : (a b : Bool) → ltb m (length sup) ≡ a → eqb (get_or sup m 0) 0 ≡ b → get_or sup m 0 ≡ 0
      go a true e f = eqb-true _ _ f
      go true false e f =
          let backed = g.backed m (ltb-true _ _ e) (eqb-false _ _ f) in absurd (omega (arith, backed, past))
      go false false e f = get_or-eq_default sup 0 (ltb-false _ _ e)

  abbrev from : ℕ
  from = l2_slot l.sup_ipa_base

  abbrev at : ℕ → ℕ
  at m = l2_slot (l.sup_ipa_base + m * block)

  pub super_wanted :
      (m : ℕ) → m < entries →
      read_block (encoded_word l base sup 5 (at m))
      ≡ wanted_leaf (get_or sup m 0) (block_address (l.sup_pa_base + m * block)) l.sup_wx_exempt
  super_wanted m h = by_frame (ltb m l.sup_frames) (leb entries (from + m)) refl refl
    where
      inside : at m < entries
      inside = omega arith

      nothing :
          l.sup_frames ≤ m → word_at (super_run l sup) (first_word 5 + at m) ≡ 0 →
          read_block (encoded_word l base sup 5 (at m))
          ≡ wanted_leaf (get_or sup m 0) (block_address (l.sup_pa_base + m * block)) l.sup_wx_exempt
      nothing past z =
          ap read_block (in_5 l base sup (at m) inside ∙ z)
          ∙ sym (ap (λ (n : ℕ). wanted_leaf n (block_address (l.sup_pa_base + m * block)) l.sup_wx_exempt) (unbacked m past))

      by_frame :
          (a b : Bool) → ltb m l.sup_frames ≡ a → leb entries (from + m) ≡ b →
          read_block (encoded_word l base sup 5 (at m))
          ≡ wanted_leaf (get_or sup m 0) (block_address (l.sup_pa_base + m * block)) l.sup_wx_exempt
      by_frame true b e f =
          let k = ltb-true m l.sup_frames e in
          let in_slot = (super_within g.layout).inside in
          let place : at m ≡ from + m = omega (arith, k, in_slot) in
          let p : at m - from ≡ m = omega (arith, place) in
          ap read_block
          (in_5 l base sup (at m) inside
          ∙ run_inside (at m) inside 4 (super_run l sup) refl (omega (arith, place)) (omega (arith, place, k))
          ∙ ap (super_at l.sup_pa_base l.sup_wx_exempt sup) p)
          ∙ block_read (get_or sup m 0) (l.sup_pa_base + m * block) l.sup_wx_exempt
      by_frame false true e f =
          let wraps = leb-true entries (from + m) f in
          let place : at m < from = omega (arith, wraps, h) in
          nothing (ltb-false _ _ e) (run_before (at m) inside 4 (super_run l sup) refl place)
      by_frame false false e f =
          let k = ltb-false m l.sup_frames e in
          let straight = leb-false entries (from + m) f in
          let place : at m ≡ from + m = omega (arith, straight) in
          nothing k (run_past (at m) inside 4 (super_run l sup) refl (omega (arith, place, k)))

-- a device whose words are a run of its table: its blocks are at the slots that cover the window's addresses
module _
    (base sup : List ℕ) (l : Layout) (t : ℕ) (w : Window)
    (first : 1 ≤ t)
    (starts : 0 < w.span → w.ipa % block ≡ 0)
    (whole : w.span % block ≡ 0)
    (leaves : (j : ℕ) → j < entries → encoded_word l base sup t j ≡ word_at (device_run t w) (first_word t + j))
  where
    abbrev first_slot : ℕ
    first_slot = l2_slot w.ipa

    module _ (j : ℕ) (h : j < entries) where
      abbrev Wanted : Type 0
      Wanted = decoded_device (encoded_word l base sup t j) ≡ wanted_block w j

      table : t ≡ 1 + (t - 1)
      table = omega (arith, first)

      abbrev Past : Type 0
      Past = w.ipa ≤ slot_address w j → w.ipa + w.span ≤ slot_address w j

      outside : Past → window_holds w (slot_address w j) ≡ false
      outside past = go (leb w.ipa (slot_address w j)) refl
        where
          go : (b : Bool) → leb w.ipa (slot_address w j) ≡ b → (b && ltb (slot_address w j) (w.ipa + w.span)) ≡ false
          go true e = le-ltb _ _ (past (leb-true _ _ e))
          go false e = refl

      nothing : word_at (device_run t w) (first_word t + j) ≡ 0 → Past → Wanted
      nothing z past =
          ap decoded_device (leaves j h ∙ z)
          ∙ sym (ap (λ b. pick b (Some (record { pa = block_address (slot_address w j); xn = true })) None) (outside past))

      below : j < first_slot → Wanted
      below k = nothing (run_before j h (t - 1) (device_run t w) table k) (λ le. absurd (omega (arith, k, le)))

      above : first_slot + w.span / block ≤ j → Wanted
      above k = nothing (run_past j h (t - 1) (device_run t w) table k) (go (ltb 0 w.span) refl)
        where
          go : (b : Bool) → ltb 0 w.span ≡ b → Past
          go true e le = let start = starts (ltb-true 0 w.span e) in omega (arith, k, whole, start)
          go false e le = omega (arith, ltb-false 0 w.span e, le)

      among : first_slot ≤ j → j < first_slot + w.span / block → Wanted
      among lo hi =
          let start = starts (omega (arith, lo, hi)) in
          let place : w.ipa + (j - first_slot) * block ≡ slot_address w j = omega (arith, lo, start) in
          let low : w.ipa ≤ slot_address w j = omega (arith, lo, start) in
          let high : slot_address w j < w.ipa + w.span = omega (arith, hi, whole, start) in
          ap decoded_device
          (leaves j h ∙ run_inside j h (t - 1) (device_run t w) table lo hi ∙ ap device_to place)
          ∙ emitted_decodes.device (block_address (slot_address w j)) (held_block (slot_address w j))
          ∙ sym (rw (le-leb _ _ low, lt-ltb _ _ high))

      pub device_wanted : Wanted
      device_wanted = go (ltb j first_slot) (ltb j (first_slot + w.span / block)) refl refl
        where
          go : (a b : Bool) → ltb j first_slot ≡ a → ltb j (first_slot + w.span / block) ≡ b → Wanted
          go true b e f = below (ltb-true _ _ e)
          go false true e f = among (ltb-false _ _ e) (ltb-true _ _ f)
          go false false e f = above (ltb-false _ _ f)

pub device_6 :
    (base sup : List ℕ) (l : Layout) (g : Guarded board_limit base sup l) (j : ℕ) →
    j < entries → decoded_device (encoded_word l base sup 6 j) ≡ wanted_block (device_window l) j
device_6 base sup l g =
    device_wanted base sup l 6 (device_window l) (omega arith) (λ h. g.layout.devices.0 (lt-ltb 0 l.device_len h))
    g.layout.lengths.0 (in_6 l base sup)
