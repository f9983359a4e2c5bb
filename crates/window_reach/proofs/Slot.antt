-- Where a window lies: in one level 1 slot, below 2^39.
use Prim.Native.Nat.{ℕ, ◌+◌, ◌-◌, ◌%◌, ◌≤◌, ◌<◌}
use mathlib.Core.Bool.{Bool, true, false, ◌&&◌, false≢true}
use mathlib.Core.Path.{◌≡◌, refl, sym, ◌∙◌}
use native.Mathlib.Omega.{arith}
use lib.Dec.{eqb}
use borrow.Author.Tests.{eq-eqb}
use Rattle.accepted_facts.specs.Accepted.{Within}
use Rattle.layout.specs.Size.{l1_span, input_limit}
use Rattle.layout.specs.Window.{l1_slot, slot}
use Rattle.layout.specs.declared.Window.{Window}
use Rattle.window_reach.specs.Granted.{contains}
use Rattle.window_reach.proofs.Contains.{inside}

-- an address in the window lies in its slot, below 2^39
in_slot : (ipa span x : ℕ) → ipa % l1_span + span ≤ l1_span → ipa ≤ x → x - ipa < span → l1_slot x ≡ l1_slot ipa
in_slot ipa span x a b c = omega arith

below_limit :
    (ipa span x : ℕ) → ipa < input_limit → ipa % l1_span + span ≤ l1_span → ipa ≤ x → x - ipa < span → x < input_limit
below_limit ipa span x a b c d = omega arith

module _ (limit : ℕ) (w : Window) (x : ℕ) (within : w.present ≡ true → Within limit w) where
  -- a window that is not present in the address's slot does not contain it
  pub not_here : (w.present && eqb (slot w) (l1_slot x)) ≡ false → contains w x ≡ false
  not_here e = go (contains w x) refl
    where
      go : (b : Bool) → contains w x ≡ b → b ≡ false
      go false c = refl
      go true c =
          let i = inside w x c in
          let v = within i.there in
          let s = in_slot w.ipa w.span x v.inside i.from i.before in
          let f : (true && eqb (slot w) (l1_slot x)) ≡ false = rw i.there at e in
          absurd (false≢true (sym f ∙ eq-eqb _ _ (sym s)))

  pub past_limit : input_limit ≤ x → contains w x ≡ false
  past_limit h = go (contains w x) refl
    where
      go : (b : Bool) → contains w x ≡ b → b ≡ false
      go false c = refl
      go true c =
          let i = inside w x c in
          let v = within i.there in
          let low = below_limit w.ipa w.span x v.below v.inside i.from i.before in absurd (omega (arith, low, h))
