-- Demand 3, by document 01 ("Update"): one claim about every list of update steps on one arena, refused ones included, from any words, for
-- every address and wherever the list is cut. Up to an update's half-way store a walk gives its answer over the words found when that
-- update began, or nothing; after it the answer that permission edges, image and device windows grant, or nothing. At half-way it gives
-- nothing. After the last store it gives the granted answer at every address, and so too when a cut update is begun again.
use Rattle.std.specs.Prelude.{ℕ, ◌≤◌, List, ◌⊎◌, ◌≡◌}
use Rattle.std.proofs.Math.Option.{some}
use Rattle.demand_2.specs.Demand2.{addresses_of}
use Rattle.demand_3.specs.Cuts.{full, Step, Cut, start, answered, cut_after, EachStep, In}
use Rattle.demand_3.specs.Readers.{EachRead, Reader, the_walk, the_manual}
use Rattle.demand_3.specs.Sources.{Source, granted_from, FilledFrom}
use Rattle.descent.specs.Descent.{words_of}
use Rattle.manual.specs.Translation.{Machine, Access}
use Rattle.refusal.specs.Table.{accepted}
use Rattle.update.specs.Step.{halfway, step_count}

-- number 0, which begins an update, or the number after the last that stored, in an update with the same source
pub data InOrder (c : Cut) (s : Step) : Type 0 where
  begins : s.kind ≡ full 0 → InOrder c s
  goes_on : s.kind ≡ full c.k → c.source ≡ some s.source → InOrder c s

-- what is asked of a step that stores; table addresses are the same through the whole list and in the walks
pub record Fair (tables : List ℕ) (c : Cut) (s : Step) : Type 0 where
  pub maps : FilledFrom s.source s.base s.sup
  pub same_tables : addresses_of s.source.layout ≡ tables
  pub in_order : InOrder c s

-- nothing is asked of a refused one
abbrev pub Premises : List ℕ → List ℕ → List Step → Type 0
Premises tables words steps = EachStep (λ c s. answered c s ≡ accepted → Fair tables c s) (start words) steps

-- the four conclusions, of the answer of a walk whose reads are k stores into the update
pub record Concludes {A : Type 0} (k : ℕ → ℕ) (nothing answer old new : A) : Type 0 where
  pub up_to_half_way : EachRead (λ r. k r ≤ halfway) → (answer ≡ old) ⊎ (answer ≡ nothing)
  pub from_half_way : EachRead (λ r. halfway ≤ k r) → (answer ≡ new) ⊎ (answer ≡ nothing)
  pub at_half_way : EachRead (λ r. k r ≡ halfway) → answer ≡ nothing
  pub after_the_last : EachRead (λ r. k r ≡ step_count) → answer ≡ new

-- each read sees the words at a cut of its own, all in one update
abbrev pub CutAnywhere : {A : Type 0} → Reader A → Type 0
CutAnywhere reader =
    (tables words : List ℕ) (steps : List Step) →
    Premises tables words steps →
    (old : List ℕ) (source : Source) (cut k : ℕ → ℕ) →
    EachRead (λ r. In old source (cut_after words steps (cut r)) (k r)) →
    (x : ℕ) →
    Concludes k reader.nothing (reader.gives tables (λ r. words_of (cut_after words steps (cut r)).words) x)
    (reader.gives tables (λ r. words_of old) x)
    (reader.reaching (granted_from source x))

pub record Demand3 : Type 0 where
  pub walk : CutAnywhere the_walk
  pub manual : (m : Machine) (a : Access) → CutAnywhere (the_manual m a)
