-- What rows 1 to 14 let by fits its tables: a window lies in one 1 GiB slot.
use Prim.Native.Nat.{ℕ, ◌+◌, ◌*◌, ◌/◌, ◌%◌, ◌≤◌, ◌<◌}
use mathlib.Core.Bool.{Bool, true, false}
use mathlib.Core.List.{List}
use mathlib.Core.Path.{◌≡◌, refl}
use native.Mathlib.Omega.{arith}
use lib.ListN.{length}
use Rattle.accepted_facts.proofs.Accepted.{absent_devices}
use Rattle.accepted_facts.proofs.Windows.{super_within, devices_within}
use Rattle.accepted_facts.specs.Accepted.{Aligned, Within}
use Rattle.accepted_facts.specs.Guarded.{Guarded}
use Rattle.layout.specs.Size.{entries, block, l1_span}
use Rattle.layout.specs.Window.{devices_of}
use Rattle.layout.specs.declared.Layout.{Layout}
use Rattle.layout.specs.declared.Window.{Window}
use Rattle.refusal.proofs.All.{all_map, all_both}
use Rattle.refusal.specs.All.{All}
use Rattle.encode.specs.Fits.{SupersFit, DeviceFits}

super_slot :
    (ipa frames p : ℕ) →
    ipa % block ≡ 0 → ipa % l1_span + frames * block ≤ l1_span → p < frames → ipa / block % entries + p < entries
super_slot ipa frames p aligned inside h = omega (arith, aligned, inside, h)

device_slots : (ipa len : ℕ) → ipa % block ≡ 0 → ipa % l1_span + len ≤ l1_span → ipa / block % entries + len / block ≤ entries
device_slots ipa len aligned inside = omega (arith, aligned, inside)

fits :
    {limit : ℕ} (w : Window) → (w.present ≡ true → Aligned w.ipa) → (w.present ≡ true → Within limit w) →
    (w.present ≡ false → w.span ≡ 0) → DeviceFits w
fits w aligned within absent = go w.present refl
  where
    go : (b : Bool) → w.present ≡ b → DeviceFits w
    go true there = device_slots w.ipa w.span (aligned there) (within there).inside
    go false gone = let none = absent gone in omega (arith, none)

module _ (limit : ℕ) (base sup : List ℕ) (l : Layout) (guarded : Guarded limit base sup l) where
  pub base_fits : length base ≤ entries
  base_fits = guarded.base_map.short

  pub supers_fit : SupersFit l sup
  supers_fit =
      let layout = guarded.layout in
      let within = super_within layout in
      record {
        short = guarded.sup_map.short;
        slots = λ p h some.
            super_slot l.sup_ipa_base l.sup_frames p layout.sup_ipa within.inside (guarded.backed p h some);
        backed = guarded.backed;
      }

  abbrev Whole : Window → Type 0
  Whole w = w.present ≡ true → Aligned w.ipa

  abbrev Held : Window → Type 0
  Held w = w.present ≡ true → Within limit w

  abbrev Gone : Window → Type 0
  Gone w = w.present ≡ false → w.span ≡ 0

  pub devices_fit : All DeviceFits (devices_of l)
  devices_fit =
      all_map (λ w. (Whole w × Held w) × Gone w) DeviceFits (λ w f. fits w f.0.0 f.0.1 f.1) (devices_of l)
      (all_both (λ w. Whole w × Held w) Gone (devices_of l)
      (all_both Whole Held (devices_of l) guarded.layout.devices (devices_within guarded.layout)) (absent_devices l))
