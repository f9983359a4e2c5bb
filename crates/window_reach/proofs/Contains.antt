-- What it says that a window contains an address.
use Prim.Native.Nat.{ℕ, ◌-◌, ◌≤◌, ◌<◌}
use mathlib.Core.Bool.{Bool, true, false, ◌&&◌, false≢true}
use mathlib.Core.Path.{◌≡◌, refl}
use lib.Dec.{leb, ltb}
use borrow.Author.Tests.{leb-true, ltb-true, le-leb, lt-ltb}
use Rattle.layout.specs.declared.Window.{Window}
use Rattle.window_reach.specs.Granted.{contains}

pub record Inside (w : Window) (x : ℕ) : Type 0 where
  pub there : w.present ≡ true
  pub from : w.ipa ≤ x
  pub before : x - w.ipa < w.span

pub inside : (w : Window) (x : ℕ) → contains w x ≡ true → Inside w x
inside w x e = go w.present (leb w.ipa x) (ltb (x - w.ipa) w.span) refl refl refl e
  where
    go : (a b c : Bool) → w.present ≡ a → leb w.ipa x ≡ b → ltb (x - w.ipa) w.span ≡ c → (a && b && c) ≡ true → Inside w x
    go true true true p q r t = record { there = p; from = leb-true _ _ q; before = ltb-true _ _ r }
    go true true false p q r t = absurd (false≢true t)
    go true false c p q r t = absurd (false≢true t)
    go false b c p q r t = absurd (false≢true t)

pub contained : (w : Window) (x : ℕ) → Inside w x → contains w x ≡ true
contained w x i = rw (i.there, le-leb _ _ i.from, lt-ltb _ _ i.before)
