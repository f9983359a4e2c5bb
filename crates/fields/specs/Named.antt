-- Look-up by code: what a number names among the values that have one.
use Rattle.std.specs.Prelude.{ℕ, Bool, true, false, List, [], ◌∷◌, eqb}

abbrev pub pick : {A : Type 0} → Bool → A → A → A
pick true a b = a
pick false a b = b

-- `found` of the first value in the list whose code is n, or `other` where none has it
abbrev pub named : {A B : Type 0} → (A → ℕ) → List A → (A → B) → B → ℕ → B
named code [] found other n = other
named code (x ∷ xs) found other n = pick (eqb n (code x)) (found x) (named code xs found other n)
