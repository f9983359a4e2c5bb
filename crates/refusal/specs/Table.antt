-- Document 01's refusal table: the rows that apply are listed in its order, and the first of them is the answer.
use Rattle.std.specs.Prelude.{ℕ, suc, Bool, true, false}
use mathlib.Core.List.{List, [], ◌∷◌, ◌++◌, flat_map}

-- a row: its number, and the values that the refusal carries
pub record Row : Type 0 where
  pub number : ℕ
  pub carried : List ℕ

abbrev pub row : ℕ → List ℕ → Row
row n vs = record { number = n; carried = vs }

pub data Outcome : Type 0 where
  accepted : Outcome
  refused : Row → Outcome

unfoldable pub first : List Row → Outcome
first [] = accepted
first (r ∷ rs) = refused r

-- these rows, where the test holds
abbrev pub given : Bool → List Row → List Row
given true rs = rs
given false rs = []

-- row n, where its test holds
abbrev pub refuse_if : Bool → ℕ → List ℕ → List Row
refuse_if t n vs = given t (row n vs ∷ [])

-- a row for each element, in order
abbrev pub each : {A : Type 0} → (A → List Row) → List A → List Row
each f xs = flat_map f xs

-- a row for each pair: the lowest first element first, then the lowest second
unfoldable pub pairs : {A : Type 0} → (A → A → List Row) → List A → List Row
pairs f [] = []
pairs f (x ∷ xs) = each (f x) xs ++ pairs f xs

-- all these rows, in order
abbrev pub all_rows : List (List Row) → List Row
all_rows rows = each (λ rs. rs) rows

-- a row for each element by its position, from k on
unfoldable pub each_from : {A : Type 0} → (ℕ → A → List Row) → ℕ → List A → List Row
each_from f k [] = []
each_from f k (x ∷ xs) = f k x ++ each_from f (suc k) xs
