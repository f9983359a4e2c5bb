-- What a call tells where no row refuses it.
use Rattle.std.specs.Prelude.{ℕ, List, [], ◌∷◌, Option, Some, None, Result, Ok, Err}
use Rattle.fields.specs.Numbers.{eight}
use Rattle.refusal.specs.Outcome.{row_of, row_words}
use Rattle.refusal.specs.Table.{Row, Outcome, accepted, refused}
use Rattle.refusal.specs.declared.Refusal.{Refusal}

pub data Told (A : Type 0) : Type 0 where
  told : A → Told A
  denied : Row → Told A

-- a call's answer
abbrev pub told_of : {A : Type 0} → Result A Refusal → Told A
told_of (Ok a) = told a
told_of (Err r) = denied (row_of r)

-- the values of what may be nothing: none where it is
abbrev pub values_if : {A : Type 0} → (A → List ℕ) → Option A → List ℕ
values_if values (Some a) = values a
values_if values None = []

-- the outcome decides whether it is told
abbrev pub after : {A : Type 0} → Outcome → A → Told A
after accepted a = told a
after (refused r) a = denied r

-- as nine numbers: 0 and the values, or the row's
abbrev pub told_words : {A : Type 0} → (A → List ℕ) → Told A → List ℕ
told_words values (told a) = 0 ∷ eight (values a)
told_words values (denied r) = row_words r
