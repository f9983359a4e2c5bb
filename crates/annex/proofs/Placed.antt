-- The windows of a layout that is let by are placed, and grant what the layout grants.
use Rattle.std.specs.Prelude.{Option, Some, None}
use Prim.Native.Nat.{ℕ, ◌%◌, ◌<◌}
use mathlib.Core.Bool.{true, false≢true}
use mathlib.Core.List.{List, ◌∷◌, map}
use mathlib.Core.Path.{◌≡◌, refl, sym, ap}
use native.Mathlib.Omega.{arith}
use borrow.Author.Tests.{ltb-true}
use Rattle.accepted_facts.proofs.Windows.{image_within, data_within, super_within, devices_within}
use Rattle.accepted_facts.specs.Accepted.{Accepted, Within, Apart}
use Rattle.annex.proofs.Across.{image_region_lem}
use Rattle.annex.specs.Windows.{region_in, granted_over, Sited, Placed}
use Rattle.layout.specs.Size.{block, board_limit}
use Rattle.layout.specs.Window.{image_window, data_window, super_window, device_window, devices_of, windows_of, slot}
use Rattle.layout.specs.declared.Layout.{Layout}
use Rattle.layout.specs.declared.Window.{Window}
use Rattle.refusal.proofs.All.{all_always, pairs_map}
use Rattle.window_reach.specs.Granted.{Region, granted_by, granted}

-- blocks that no map is read for
blocks_sited : (w : Window) → Within board_limit w → (w.code ≡ 2 → ⊥) → w.span % block ≡ 0 → 0 < w.span → Sited w
blocks_sited w v not-data whole some =
    record { within = v; pages = λ e. absurd (not-data e); blocks = λ n. whole; some = λ n m. some }

image_sited : (i : Option ℕ) → Within board_limit (image_window i) → (image_window i).present ≡ true → Sited (image_window i)
image_sited (Some pa) v here = blocks_sited (image_window (Some pa)) v (λ e. omega (arith, e)) refl (omega arith)
image_sited None v here = absurd (false≢true here)

module _ (l : Layout) (facts : Accepted board_limit l) where
  data_sited : Sited (data_window l)
  data_sited =
      record { within = data_within facts; pages = λ e. refl; blocks = λ n. absurd (n refl); some = λ n m. absurd (n refl) }

  super_sited : Sited (super_window l)
  super_sited =
      record {
        within = super_within facts;
        pages = λ e. absurd (omega (arith, e));
        blocks = λ n. omega arith;
        some = λ n m. absurd (m refl);
      }

  device_sited : (device_window l).present ≡ true → Sited (device_window l)
  device_sited here =
      blocks_sited (device_window l) ((devices_within facts).0 here) (λ e. omega (arith, e)) facts.lengths.0 (ltb-true _ _ here)

  pub placed : Placed (windows_of l)
  placed =
      record {
        each = (
          λ here. image_sited l.guest_image_pa (image_within facts here) here,
          (λ here. data_sited, (λ here. super_sited, (device_sited, tt))),
        );
        apart = pairs_map (λ w. Unit) (λ v w. v.present ≡ true → w.present ≡ true → Apart v w)
            (λ v w. v.present ≡ true → w.present ≡ true → slot v ≡ slot w → ⊥)
            (λ v w a b p x y. (p x y).slots)
            (windows_of l)
            (all_always (λ w. Unit) (λ w. tt) (windows_of l))
            facts.apart;
      }

-- the regions of a layout are those of its windows
image_code : (i : Option ℕ) → (image_window i).code ≡ 1
image_code (Some pa) = refl
image_code None = refl

pub grants : (l : Layout) (base sup : List ℕ) → granted l base sup ≡ granted_over base sup l.sup_wx_exempt (windows_of l)
grants l base sup =
    let w = image_window l.guest_image_pa in
    let others = map (region_in base sup l.sup_wx_exempt) (data_window l ∷ super_window l ∷ devices_of l) in
    ap (λ (r : Region). λ (x : ℕ). granted_by (r ∷ others) x)
    (sym (image_region_lem base sup l.sup_wx_exempt w (image_code l.guest_image_pa)))
