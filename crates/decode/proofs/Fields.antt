-- The test of the type field, as the code makes it.
use Prim.Native.Nat.{ℕ, ◌%◌}
use mathlib.Core.Bool.{true, false}
use mathlib.Core.Path.{◌≡◌, ◌∙◌, sym}
use native.Mathlib.Omega.{arith}
use lib.Dec.{eqb}
use borrow.Author.Tests.{eq-eqb, ne_eqb}
use Rattle.desc.specs.Descriptor.{descriptor_type}

low_bits : (d : ℕ) → descriptor_type d ≡ d % 4
low_bits d = omega arith

pub has_type : (d k : ℕ) → d % 4 ≡ k → eqb (descriptor_type d) k ≡ true
has_type d k e = eq-eqb _ _ (low_bits d ∙ e)

pub not_type : (d k : ℕ) → (d % 4 ≡ k → ⊥) → eqb (descriptor_type d) k ≡ false
not_type d k ne = ne_eqb _ _ (λ e. ne (sym (low_bits d) ∙ e))
