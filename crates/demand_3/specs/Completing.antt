-- Demand 3 is not empty: after any list of steps, an update to an accepted source can be made, and ends granted everywhere.
use Rattle.std.specs.Prelude.{ℕ, zero, suc, ◌+◌, ◌≤◌, List, [], ◌∷◌, ◌++◌, ◌≡◌, length}
use Rattle.demand_2.specs.Demand2.{addresses_of}
use Rattle.demand_3.specs.Cuts.{full, Step, answered, cut_after, EachStep, In}
use Rattle.demand_3.specs.Demand3.{Premises}
use Rattle.demand_3.specs.Sources.{Source, granted_from, FilledFrom}
use Rattle.descent.specs.Descent.{words_of}
use Rattle.layout.specs.Size.{board_limit, arena_length}
use Rattle.manual.specs.Translation.{Machine, Access, translation, allowed}
use Rattle.refusal.specs.Table.{accepted, first}
use Rattle.rows.specs.Rows.{guard_rows}
use Rattle.update.specs.Step.{step_count}
use Rattle.walk.specs.Walk.{walk_of}

-- steps n and on, so many, to one source with two maps
unfoldable pub steps_from : Source → List ℕ → List ℕ → ℕ → ℕ → List Step
steps_from s base sup n zero = []
steps_from s base sup n (suc count) =
    record { kind = full n; source = s; base = base; sup = sup } ∷ steps_from s base sup (suc n) count

-- steps 0 to 6,143
abbrev pub full_update : Source → List ℕ → List ℕ → List Step
full_update s base sup = steps_from s base sup 0 step_count

-- maps filled from the source, which rows 2 to 14 let by
pub record AcceptedSource (tables : List ℕ) (s : Source) (base sup : List ℕ) : Type 0 where
  pub maps : FilledFrom s base sup
  pub lets_by : first (guard_rows board_limit base sup s.layout) ≡ accepted
  pub same_tables : addresses_of s.layout ≡ tables

module _ (tables words : List ℕ) (steps : List Step) (s : Source) (base sup : List ℕ) where
  abbrev pub continued : List Step
  continued = steps ++ full_update s base sup

  pub record Completes : Type 0 where
    pub never_refused :
        EachStep (λ c t. answered c t ≡ accepted) (cut_after words steps (length steps)) (full_update s base sup)
    pub premises : Premises tables words continued
    pub cuts :
        (n : ℕ) → n ≤ step_count → In (cut_after words steps (length steps)).words s (cut_after words continued (length steps + n)) n
    pub walk :
        (x : ℕ) →
        walk_of tables (λ r. words_of (cut_after words continued (length steps + step_count)).words) x ≡ granted_from s x
    pub manual :
        (m : Machine) (a : Access) (x : ℕ) →
        translation m tables (λ r. words_of (cut_after words continued (length steps + step_count)).words) a x
        ≡ allowed a (granted_from s x)

abbrev pub UpdatesComplete : Type 0
UpdatesComplete =
    (tables words : List ℕ) (steps : List Step) →
    length words ≡ arena_length →
    Premises tables words steps →
    (s : Source) (base sup : List ℕ) → AcceptedSource tables s base sup → Completes tables words steps s base sup
