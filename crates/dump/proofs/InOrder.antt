-- Texts in order: alike where each is, and one alone.
use Prim.Native.Nat.{ℕ, zero, suc, ◌+◌, ◌<◌}
use mathlib.Core.Bool.{false}
use mathlib.Core.List.{List, [], ◌++◌, append-nil}
use mathlib.Core.Path.{◌≡◌, refl, ap, ap₂, ◌∙◌}
use native.Mathlib.Omega.{arith}
use lib.Dec.{eqb}
use borrow.Author.Tests.{ne_eqb}
use Rattle.dump.specs.Dump.{in_order}
use Rattle.dump.specs.Pieces.{alone}

pub same_texts : (f g : ℕ → List ℕ) (k n : ℕ) → ((i : ℕ) → i < k + n → f i ≡ g i) → in_order f k n ≡ in_order g k n
unfolding in_order
same_texts f g k zero h = refl
same_texts f g k (suc n) h =
    ap₂ (λ (x y : List ℕ). x ++ y) (h k (omega arith)) (same_texts f g (suc k) n (λ i less. h i (omega (arith, less))))

none_later : (line : List ℕ) (k n : ℕ) → in_order (λ i. alone i line) (suc k) n ≡ []
unfolding in_order
none_later line k zero = refl
none_later line k (suc n) = let later : eqb (suc k) 0
    ≡ false = ne_eqb (suc k) 0 (λ e. omega (arith, e)) in rw later (none_later line (suc k) n)

-- the line that stands for the whole, before as many pieces without any
pub alone_all : (line : List ℕ) (n : ℕ) → 0 < n → in_order (λ i. alone i line) 0 n ≡ line
unfolding in_order
alone_all line zero h = absurd (omega (arith, h))
alone_all line (suc n) h = ap (λ (rest : List ℕ). line ++ rest) (none_later line 0 n) ∙ append-nil line
