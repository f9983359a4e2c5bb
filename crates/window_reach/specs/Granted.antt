-- The granted answer of an address, by document 01 ("Update"): by windows alone, with no word of a table in it.
use Rattle.std.specs.Prelude.{Option, Some, None}
use Rattle.reach.specs.declared.Reach.{Reach}
use Rattle.std.specs.Prelude.{ℕ, ◌+◌, ◌-◌, ◌/◌, Bool, false, ◌&&◌, List, [], ◌∷◌, map, leb, ltb, get_or}
use Rattle.desc.specs.Words.{leaf_access_xn}
use Rattle.desc.specs.declared.AccessXn.{AccessXn}
use Rattle.fields.specs.Named.{pick, named}
use Rattle.layout.specs.Size.{page, block}
use Rattle.layout.specs.Window.{image_window, data_window, super_window, devices_of}
use Rattle.layout.specs.declared.Layout.{Layout}
use Rattle.layout.specs.declared.Window.{Window}
use Rattle.perm.specs.Perm.{perm_code}
use Rattle.perm.specs.declared.Perm.TheVariants.{Ro, Rw, Rx}

-- a window in pieces of one size: piece p is mapped by its entry, as an entry of a leaf map
pub record Region : Type 0 where
  pub window : Window
  pub piece : ℕ
  pub entry : ℕ → ℕ
  pub exempt : Bool

abbrev pub region : Window → ℕ → (ℕ → ℕ) → Bool → Region
region w size entry exempt = record { window = w; piece = size; entry = entry; exempt = exempt }

-- Ro and executable, as 3 is
abbrev pub image_region : Layout → Region
image_region l = region (image_window l.guest_image_pa) block (λ p. perm_code Rx) false

-- data pages and super blocks go by their maps, where no entry is 0; the exemption is the supers'
abbrev pub data_region : Layout → List ℕ → Region
data_region l base = region (data_window l) page (λ p. get_or base p 0) false

abbrev pub super_region : Layout → List ℕ → Region
super_region l sup = region (super_window l) block (λ p. get_or sup p 0) l.sup_wx_exempt

-- Rw and never, as 2 is
abbrev pub device_region : Window → Region
device_region w = region w block (λ p. perm_code Rw) false

abbrev pub regions_of : Layout → List ℕ → List ℕ → List Region
regions_of l base sup = image_region l ∷ data_region l base ∷ super_region l sup ∷ map device_region (devices_of l)

abbrev pub contains : Window → ℕ → Bool
contains w x = w.present && leb w.ipa x && ltb (x - w.ipa) w.span

abbrev pub reach_at : ℕ → AccessXn → Option Reach
reach_at pa a = Some (record { pa = pa; perm = a.access; xn = a.xn })

-- an output address by an entry: Ro (1, 3) or Rw (2), executable for 3 and, where exempt, for 2; nothing for 0
abbrev pub by_entry : ℕ → Bool → ℕ → Option Reach
by_entry pa exempt entry = named perm_code (Ro ∷ Rw ∷ Rx ∷ []) (λ p. reach_at pa (leaf_access_xn p exempt)) None entry

-- the same offset from the output base, by the entry of the piece
abbrev pub granted_in : Region → ℕ → Option Reach
granted_in r x =
    let away = x - r.window.ipa in by_entry (r.window.pa + away) r.exempt (r.entry (away / r.piece))

-- nothing elsewhere
unfoldable pub granted_by : List Region → ℕ → Option Reach
granted_by [] x = None
granted_by (r ∷ rs) x = pick (contains r.window x) (granted_in r x) (granted_by rs x)

abbrev pub granted : Layout → List ℕ → List ℕ → ℕ → Option Reach
granted l base sup x = granted_by (regions_of l base sup) x
