-- The level 1 words that encoding leaves for an accepted layout: each area's at its slot, since no other has it, and 0 elsewhere.
use Prim.Native.Nat.{ℕ, ◌+◌, ◌<◌}
use mathlib.Core.Bool.{Bool, true, false, ◌&&◌, ◌||◌, false≢true}
use mathlib.Core.List.{List, [], ◌∷◌}
use mathlib.Core.Path.{◌≡◌, refl, sym, ap, ◌∙◌}
use native.Mathlib.Omega.{arith}
use lib.Dec.{eqb}
use borrow.Author.Tests.{eqb-true, ne_eqb}
use Rattle.accepted_facts.specs.Accepted.{Accepted, Apart}
use Rattle.areas.specs.Area.{areas_of, live_areas_of, area_has}
use Rattle.areas.specs.declared.Area.{Area}
use Rattle.arena.proofs.At.{l1_at, at_1, last_none, last_here}
use Rattle.arena.specs.Word.{table_to}
use Rattle.layout.specs.Size.{entries, board_limit}
use Rattle.layout.specs.Window.{windows_of, slot}
use Rattle.layout.specs.declared.Layout.{Layout}
use Rattle.layout.specs.declared.Window.{Window}
use Rattle.refusal.proofs.All.{all_always, all_every, pairs_map}
use Rattle.refusal.specs.All.{All}
use Rattle.verify_rows.specs.Verifying.{window_at}
use Rattle.verify_theorems.specs.Verified.{encoded_word}
use Rattle.verify_theorems.proofs.Told.{halves, neither}

-- the areas as they are stored are those that are verified, in another order
module _ (l : Layout) (P : Area → Type 0) where
  as_verified : All P (areas_of l) → All P (live_areas_of l)
  as_verified a = (a.1.0, (a.1.1.0, (a.0, a.1.1.1)))

  as_stored : All P (live_areas_of l) → All P (areas_of l)
  as_stored a = (a.1.1.0, (a.0, (a.1.0, a.1.1.1)))

-- whose word an index has

nobody : (xs : List Area) (j : ℕ) → window_at xs j ≡ false → All (λ a. area_has a j ≡ false) xs
nobody [] j e = tt
nobody (a ∷ xs) j e = let p = neither (area_has a j) (window_at xs j) e in (p.0, nobody xs j p.1)

module _ {C : Type 0} (P : Area → Type 0) (j : ℕ) (one : (a : Area) → P a → area_has a j ≡ true → C) where
  pub somebody : (xs : List Area) → window_at xs j ≡ true → All P xs → C
  somebody [] e all = absurd (false≢true e)
  somebody (a ∷ xs) e all = go (area_has a j) refl e (λ f. somebody xs f all.1)
    where
      go : (b : Bool) → area_has a j ≡ b → (b || window_at xs j) ≡ true → (window_at xs j ≡ true → C) → C
      go true q f later = one a all.0 q
      go false q f later = later f

pub l1_word : (l : Layout) (base sup : List ℕ) (j : ℕ) → j < entries → encoded_word l base sup 1 j ≡ l1_at l j
l1_word l base sup j h = at_1 l base sup (0 + j) (omega (arith, h)) ∙ ap (l1_at l) (omega (arith, h))

-- an area that has an index has its word
abbrev pub Named : Layout → ℕ → Area → Type 0
Named l j x = area_has x j ≡ true → l1_at l j ≡ table_to x.table

module _ (l : Layout) (a : Accepted board_limit l) where
  -- of windows that are apart one has an index
  alone :
      (j : ℕ) (v w : Window) → (v.present ≡ true → w.present ≡ true → Apart v w) →
      (v.present && eqb (slot v) j) ≡ true → (w.present && eqb (slot w) j) ≡ false
  alone j v w apart h = go w.present refl
    where
      go : (b : Bool) → w.present ≡ b → (b && eqb (slot w) j) ≡ false
      go true q =
          let p = halves v.present _ h in
          ne_eqb (slot w) j (λ e. (apart p.0 q).slots (eqb-true (slot v) j p.1 ∙ sym e))
      go false q = refl

  pub l1_live : All (λ x. (j : ℕ) → Named l j x) (live_areas_of l)
  l1_live =
      as_verified l (λ x. (j : ℕ) → Named l j x)
      (all_every (Named l) (areas_of l)
      (λ j.
      last_here (areas_of l) j 0
      (pairs_map (λ w. Unit) _ _ (λ v w x y. alone j v w) (windows_of l) (all_always _ (λ w. tt) (windows_of l)) a.apart)))

  pub l1_none : (j : ℕ) → window_at (live_areas_of l) j ≡ false → l1_at l j ≡ 0
  l1_none j e = last_none (areas_of l) j 0 (as_stored l (λ x. area_has x j ≡ false) (nobody (live_areas_of l) j e))
