-- Row 6's six checks of alignment.
use Rattle.std.specs.Prelude.{ℕ, ◌%◌, Bool, true, not, ◌&&◌, List, [], ◌∷◌, eqb}
use Rattle.layout.specs.Size.{page, block}
use Rattle.layout.specs.Window.{image_window, device_window}
use Rattle.layout.specs.declared.Check.{Check}
use Rattle.layout.specs.declared.Layout.{Layout}

-- not k × unit
abbrev pub unaligned : ℕ → ℕ → Bool
unaligned n unit = not (eqb (n % unit) 0)

abbrev pub check : ℕ → Bool → ℕ → ℕ → Check
check n applies base align = record { code = n; fails = applies && unaligned base align; base = base; align = align }

-- data ipa, data pa, super ipa, super pa, image, device: data pa 4,096, others 2 MiB; device if its length is above 0
abbrev pub checks_of : Layout → List Check
checks_of l =
    let image = image_window l.guest_image_pa in
    let device = device_window l in
    check 1 true l.data_ipa_base block
    ∷ check 2 true l.data_pa_base page
    ∷ check 3 true l.sup_ipa_base block
    ∷ check 4 true l.sup_pa_base block
    ∷ check 5 image.present image.ipa block
    ∷ check 6 device.present device.ipa block
    ∷ []
