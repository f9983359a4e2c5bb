-- What holds of every number below one and of that one holds below the next.
use Prim.Native.Nat.{ℕ, ◌+◌, ◌<◌}
use mathlib.Core.Bool.{Bool, true, false}
use mathlib.Core.Path.{◌≡◌, refl, subst}
use native.Mathlib.Omega.{arith}
use lib.Dec.{ltb}
use borrow.Author.Tests.{ltb-true, ltb-false}

pub below_next :
    (P : ℕ → Type 0) (i : ℕ) → ((j : ℕ) → j < i → P j) → P i → (j : ℕ) → j < i + 1 → P j
below_next P i below here j h = go (ltb j i) refl
  where
    go : (b : Bool) → ltb j i ≡ b → P j
    go true t = below j (ltb-true j i t)
    go false t = let same : i ≡ j = omega (arith, h, ltb-false j i t) in subst P same here
