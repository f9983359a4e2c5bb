-- What is known of a layout that rows 4 to 12 let by.
use Rattle.std.specs.Prelude.{ℕ, ◌+◌, ◌%◌, ◌≤◌, ◌<◌, true, false, [], ◌⊎◌, ◌≡◌}
use Rattle.layout.specs.Layout.{tables_of}
use Rattle.layout.specs.Size.{page, block, l1_span, input_limit, uncountable}
use Rattle.layout.specs.Window.{image_window, devices_of, windows_of, slot}
use Rattle.layout.specs.declared.Layout.{Layout}
use Rattle.layout.specs.declared.Table.{Table}
use Rattle.layout.specs.declared.Window.{Window}
use Rattle.refusal.specs.All.{All, AllPairs}
use Rattle.refusal.specs.Table.{accepted, first}
use Rattle.rows.specs.Rows.{capped, refusals_at, overlap, row9, row11}

-- a block of 2 MiB begins there
abbrev pub Aligned : ℕ → Type 0
Aligned n = n % block ≡ 0

-- a table's address can be named
pub record Nameable (limit : ℕ) (t : Table) : Type 0 where
  pub below : t.pa < limit
  pub aligned : t.pa % page ≡ 0

-- a window lies below 2^39 in one 1 GiB slot, and its output at or below the limit
pub record Within (limit : ℕ) (w : Window) : Type 0 where
  pub below : w.ipa < input_limit
  pub inside : w.ipa % l1_span + w.span ≤ l1_span
  pub output : w.pa + w.span ≤ limit

-- one range ends where the other begins, or before
abbrev pub Disjoint : ℕ → ℕ → ℕ → ℕ → Type 0
Disjoint a alen b blen = (a + alen ≤ b) ⊎ (b + blen ≤ a)

pub record Apart (v w : Window) : Type 0 where
  pub slots : slot v ≡ slot w → ⊥
  pub inputs : Disjoint v.ipa v.span w.ipa w.span
  pub outputs : Disjoint v.pa v.span w.pa w.span

pub record Accepted (limit : ℕ) (l : Layout) : Type 0 where
  pub lengths : All (λ w. Aligned w.span) (devices_of l)
  pub frame_size : l.frame_size ≡ page
  pub data_ipa : Aligned l.data_ipa_base
  pub data_pa : l.data_pa_base % page ≡ 0
  pub sup_ipa : Aligned l.sup_ipa_base
  pub sup_pa : Aligned l.sup_pa_base
  pub image : (image_window l.guest_image_pa).present ≡ true → Aligned (image_window l.guest_image_pa).ipa
  pub devices : All (λ w. w.present ≡ true → Aligned w.ipa) (devices_of l)
  pub tables : All (λ t. t.present ≡ true → Nameable limit t) (tables_of l)
  pub frames : l.sup_frames < uncountable
  pub windows : All (λ w. w.present ≡ true → Within limit w) (windows_of l)
  pub apart : AllPairs (λ v w. v.present ≡ true → w.present ≡ true → Apart v w) (windows_of l)

abbrev pub AcceptedFacts : Type 0
AcceptedFacts = (limit : ℕ) (l : Layout) → first (refusals_at limit l) ≡ accepted → Accepted (capped limit) l

-- 'WindowsOverlap' with space "ipa" can't occur after 9 and 11
abbrev pub NoInputOverlap : Type 0
NoInputOverlap =
    (v w : Window) →
    v.present ≡ true →
    w.present ≡ true →
    row9 v ≡ [] → row9 w ≡ [] → row11 v w ≡ [] → overlap v.ipa v.span w.ipa w.span ≡ false
