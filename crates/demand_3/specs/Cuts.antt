-- Lists of update steps on one arena, refused ones included, and what is known where such a list is cut, by document 01 ("Update").
use Rattle.std.specs.Prelude.{ℕ, suc, ◌≡◌, eqb, take}
use mathlib.Core.List.{List, [], ◌∷◌, foldl}
use Rattle.std.proofs.Math.Option.{Option, some, none}
use Rattle.fields.specs.Named.{pick}
use Rattle.refusal.specs.Table.{Row, Outcome, accepted, refused, first}
use Rattle.update.specs.Step.{step_rows, left_by}
use Rattle.demand_3.specs.Sources.{Source}

-- a step of a full update, by its number
pub data Kind : Type 0 where
  full : ℕ → Kind

-- a call of a step on the arena: its kind, its source, of which it is handed the layout, and two maps
pub record Step : Type 0 where
  pub kind : Kind
  pub source : Source
  pub base : List ℕ
  pub sup : List ℕ

-- at a cut: the arena's words, the number of stores since the update began, the words found then, and its source, if one has begun
pub record Cut : Type 0 where
  pub words : List ℕ
  pub k : ℕ
  pub old : List ℕ
  pub source : Option Source

-- before any update k is 0 and the first words are old
abbrev pub start : List ℕ → Cut
start words = record { words = words; k = 0; old = words; source = none }

-- what a step answers and leaves, by its kind; each gets the words that the last one left
abbrev pub call_rows : Kind → Step → List ℕ → List Row
call_rows (full n) s words = step_rows s.source.layout s.base s.sup n words

unfoldable pub answered : Cut → Step → Outcome
answered c s = first (call_rows s.kind s c.words)

abbrev pub words_left : Kind → Outcome → Cut → Step → List ℕ
words_left (full n) o c s = left_by o s.source.layout s.base s.sup n c.words

-- a step that stores begins an update, or goes on with it
abbrev pub opened : Cut → Step → Cut
opened c s = record { words = words_left s.kind accepted c s; k = 1; old = c.words; source = some s.source }

abbrev pub gone_on : Cut → Step → Cut
gone_on c s = record { words = words_left s.kind accepted c s; k = suc c.k; old = c.old; source = c.source }

-- of a full update, number 0 begins
abbrev pub storing : Kind → Cut → Step → Cut
storing (full n) c s = pick (eqb n 0) (opened c s) (gone_on c s)

-- a refused step stores nothing and doesn't count
abbrev pub counted : Outcome → Cut → Step → Cut
counted (refused r) c s =
    record { words = words_left s.kind (refused r) c s; k = c.k; old = c.old; source = c.source }
counted accepted c s = storing s.kind c s

unfoldable pub stepped : Cut → Step → Cut
stepped c s = counted (answered c s) c s

-- the cut after so many steps of the list
abbrev pub cut_after : List ℕ → List Step → ℕ → Cut
cut_after words steps n = foldl stepped (start words) (take n steps)

-- of each step, at the cut where it stands
abbrev pub EachStep : (Cut → Step → Type 0) → Cut → List Step → Type 0
EachStep P c [] = Unit
EachStep P c (s ∷ ss) = P c s × EachStep P (stepped c s) ss

-- a cut of the update that found these words and has this source, after k stores; before its step 0, k is 0. Updates that agree in both are
-- one here, so that more cuts belong to it than in document 01
pub data In (old : List ℕ) (source : Source) (c : Cut) : ℕ → Type 0 where
  begun : c.old ≡ old → c.source ≡ some source → In old source c c.k
  to_begin : c.words ≡ old → In old source c 0
