-- What is known of a layout whose super window is counted, and of one whose is not.
use Rattle.std.specs.Prelude.{Some, None}
use Prim.Native.Nat.{ℕ, ◌<◌}
use mathlib.Core.Bool.{Bool, true, false, false≢true}
use mathlib.Core.Path.{◌≡◌, refl, sym, ◌∙◌}
use native.Mathlib.Omega.{arith}
use lib.Dec.{leb}
use borrow.Author.Tests.{lt-leb}
use Rattle.fields.specs.Named.{pick}
use Rattle.layout.specs.Size.{uncountable}
use Rattle.layout.specs.Window.{super_window, super_counted}
use Rattle.layout.specs.declared.Layout.{Layout}
use Rattle.layout.specs.declared.Window.{Window}

module _ (l : Layout) where
  -- it is the super window, and row 8's test does not hold
  pub counted : (w : Window) → super_counted l ≡ Some w → (leb uncountable l.sup_frames ≡ false) × (w ≡ super_window l)
  counted w e = go (leb uncountable l.sup_frames) refl e
    where
      go :
          (t : Bool) → leb uncountable l.sup_frames ≡ t → pick t None (Some (super_window l)) ≡ Some w →
          (leb uncountable l.sup_frames ≡ false) × (w ≡ super_window l)
      go true q e = absurd (let z : ◌≡◌ {A = ℕ} 0 1 = cc in omega arith)
      go false q e = (q, cc)

  pub uncounted : super_counted l ≡ None → leb uncountable l.sup_frames ≡ true
  uncounted e = go (leb uncountable l.sup_frames) refl e
    where
      go :
          (t : Bool) → leb uncountable l.sup_frames ≡ t → pick t None (Some (super_window l)) ≡ None →
          leb uncountable l.sup_frames ≡ true
      go true q e = q
      go false q e = absurd (let z : ◌≡◌ {A = ℕ} 0 1 = cc in omega arith)

  -- so after row 8 it is counted
  pub always : l.sup_frames < uncountable → super_counted l ≡ None → ⊥
  always h e = false≢true (sym (lt-leb _ _ h) ∙ uncounted e)
