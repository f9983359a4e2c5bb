-- What is known of each window of a layout that is let by, by its name.
use Prim.Native.Nat.{ℕ}
use mathlib.Core.Bool.{true}
use mathlib.Core.Path.{◌≡◌, refl}
use Rattle.layout.specs.Window.{image_window, data_window, super_window, devices_of}
use Rattle.layout.specs.declared.Layout.{Layout}
use Rattle.refusal.specs.All.{All}
use Rattle.accepted_facts.specs.Accepted.{Accepted, Within}

module _ {limit : ℕ} {l : Layout} (facts : Accepted limit l) where
  pub image_within : (image_window l.guest_image_pa).present ≡ true → Within limit (image_window l.guest_image_pa)
  image_within = facts.windows.0

  pub data_within : Within limit (data_window l)
  data_within = facts.windows.1.0 refl

  pub super_within : Within limit (super_window l)
  super_within = facts.windows.1.1.0 refl

  pub devices_within : All (λ w. w.present ≡ true → Within limit w) (devices_of l)
  devices_within = facts.windows.1.1.1
