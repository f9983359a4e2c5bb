-- What has a word in table 1: each window that is present, and the table that the word names.
use Rattle.std.specs.Prelude.{ℕ, Bool, false, ◌&&◌, List, [], ◌∷◌, eqb}
use Rattle.areas.specs.declared.Area.{Area}
use Rattle.layout.specs.Window.{image_window, data_window, super_window, device_window, l1_slot}
use Rattle.layout.specs.declared.Layout.{Layout}
use Rattle.layout.specs.declared.Window.{Window}

abbrev pub area : Window → ℕ → Area
area w pa = record { present = w.present; ipa = w.ipa; table = pa }

abbrev pub image_area : Layout → Area
image_area l = area (image_window l.guest_image_pa) l.l2_code_pa

abbrev pub data_area : Layout → Area
data_area l = area (data_window l) l.l2_data_pa

abbrev pub super_area : Layout → Area
super_area l = area (super_window l) l.l2_sup_pa

abbrev pub device_area : Layout → Area
device_area l = area (device_window l) l.l2_dev_pa

abbrev pub no_area : Area
no_area = record { present = false; ipa = 0; table = 0 }

-- in the order in which they are stored: image, data, super, device
abbrev pub areas_of : Layout → List Area
areas_of l = image_area l ∷ data_area l ∷ super_area l ∷ device_area l ∷ []

-- in the order in which they are verified: data, super, image, device
abbrev pub live_areas_of : Layout → List Area
live_areas_of l = data_area l ∷ super_area l ∷ image_area l ∷ device_area l ∷ []

abbrev pub area_slot : Area → ℕ
area_slot a = l1_slot a.ipa

-- it is present, and this index of table 1 is its slot
abbrev pub area_has : Area → ℕ → Bool
area_has a j = a.present && eqb (area_slot a) j
