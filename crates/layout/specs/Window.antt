-- The four windows of a layout: image and device map an address to itself.
use Rattle.std.specs.Prelude.{Option, Some, None}
use Rattle.std.specs.Prelude.{ℕ, ◌*◌, ◌/◌, ◌%◌, Bool, true, false, List, [], ◌∷◌, leb, ltb}
use Rattle.fields.specs.Named.{pick}
use Rattle.layout.specs.Size.{entries, page, block, l1_span, uncountable}
use Rattle.layout.specs.declared.Layout.{Layout}
use Rattle.layout.specs.declared.Window.{Window}

abbrev pub window : ℕ → Bool → ℕ → ℕ → ℕ → Window
window n present ipa pa span = record { code = n; present = present; ipa = ipa; pa = pa; span = span }

abbrev pub image_window : Option ℕ → Window
image_window (Some pa) = window 1 true pa pa block
image_window None = window 1 false 0 0 0

-- 512 pages
abbrev pub data_window : Layout → Window
data_window l = window 2 true l.data_ipa_base l.data_pa_base (entries * page)

-- sup_frames blocks
abbrev pub super_window : Layout → Window
super_window l = window 3 true l.sup_ipa_base l.sup_pa_base (l.sup_frames * block)

-- the same in 64 bits
abbrev pub super_counted : Layout → Option Window
super_counted l = pick (leb uncountable l.sup_frames) None (Some (super_window l))

-- present if its length is above 0
abbrev pub device_window : Layout → Window
device_window l = window 4 (ltb 0 l.device_len) l.device_base l.device_base l.device_len

abbrev pub devices_of : Layout → List Window
devices_of l = device_window l ∷ []

-- image, data, super, device: the order of every check
abbrev pub windows_with : Layout → Window → List Window
windows_with l sup = image_window l.guest_image_pa ∷ data_window l ∷ sup ∷ devices_of l

abbrev pub windows_of : Layout → List Window
windows_of l = windows_with l (super_window l)

-- the level 1 and the level 2 entry of an address
abbrev pub l1_slot : ℕ → ℕ
l1_slot x = x / l1_span % entries

abbrev pub l2_slot : ℕ → ℕ
l2_slot x = x / block % entries

-- the level 1 entry of a window
abbrev pub slot : Window → ℕ
slot w = l1_slot w.ipa
