-- Which of two faults is told.
use Rattle.std.specs.Prelude.{List, [], ◌∷◌, map, ◌≡◌}
use Rattle.refusal.specs.Table.{Row, Outcome, refused}

-- a change of what is tested, and the row that it draws
pub record Fault (A : Type 0) : Type 0 where
  pub change : A → A
  pub draws : Row

abbrev pub fault : {A : Type 0} → (A → A) → Row → Fault A
fault f r = record { change = f; draws = r }

-- an answer for each two neighbours
abbrev pub neighbours : {A B : Type 0} → (A → A → B) → List A → List B
neighbours f [] = []
neighbours f (x ∷ []) = []
neighbours f (x ∷ y ∷ xs) = f x y ∷ neighbours f (y ∷ xs)

-- each fault alone draws its row; of two neighbours neither undoes the other, and together the first is told
pub record FirstTold {A : Type 0} (tells : A → Outcome) (sound : A) (faults : List (Fault A)) : Type 0 where
  pub alone : map (λ f. tells (f.change sound)) faults ≡ map (λ f. refused f.draws) faults
  pub apart :
      neighbours (λ f g. f.change (g.change sound)) faults ≡ neighbours (λ f g. g.change (f.change sound)) faults
  pub together :
      neighbours (λ f g. tells (f.change (g.change sound))) faults ≡ neighbours (λ f g. refused f.draws) faults
