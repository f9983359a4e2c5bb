-- The cuts that document 01 ("Update") puts in an update are cuts that demand 3 speaks of.
use Rattle.std.specs.Prelude.{ℕ, suc, ◌+◌, ◌≤◌, List, [], ◌∷◌, ◌++◌, ◌≡◌, length, take}
use Rattle.refusal.specs.Table.{Outcome, accepted, refused}
use Rattle.demand_3.specs.Cuts.{full, Step, Cut, start, answered, stepped, cut_after, EachStep, In}
use Rattle.demand_3.specs.Sources.{Source}

-- how many of the steps store
abbrev pub counting : Outcome → ℕ → ℕ
counting accepted n = suc n
counting (refused r) n = n

abbrev pub stores_of : Cut → List Step → ℕ
stores_of c [] = 0
stores_of c (s ∷ ss) = counting (answered c s) (stores_of (stepped c s) ss)

abbrev pub NoneStores : Cut → List Step → Type 0
NoneStores c steps = EachStep (λ d s. answered d s ≡ accepted → ⊥) c steps

-- an update in a list of steps: its step 0 stores; none before it does, back to an earlier one or to the list's start; and of those after
-- it none that stores has number 0
module _ (words : List ℕ) (before idle : List Step) (zeroth : Step) (rest : List Step) where
  abbrev pub found : Cut
  found = cut_after words (before ++ idle) (length (before ++ idle))

  pub record Update : Type 0 where
    pub none_stores : NoneStores (cut_after words before (length before)) idle
    pub zeroth_kind : zeroth.kind ≡ full 0
    pub stores : answered found zeroth ≡ accepted
    pub no_other : EachStep (λ d s. answered d s ≡ accepted → s.kind ≡ full 0 → ⊥) (stepped found zeroth) rest

  module _ (later : List Step) where
    abbrev pub all_steps : List Step
    all_steps = before ++ (idle ++ (zeroth ∷ (rest ++ later)))

    -- in any list that has the update, the cuts before step 0 are its own with k 0, and those since with k the number of stores
    pub record Belong : Type 0 where
      pub before_it :
          (n : ℕ) → n ≤ length idle → In found.words zeroth.source (cut_after words all_steps (length before + n)) 0
      pub since :
          (n : ℕ) → n ≤ length rest →
          In found.words zeroth.source (cut_after words all_steps (length before + (length idle + suc n)))
          (suc (stores_of (stepped found zeroth) (take n rest)))

abbrev pub CutsBelong : Type 0
CutsBelong =
    (words : List ℕ) (before idle : List Step) (zeroth : Step) (rest later : List Step) →
    Update words before idle zeroth rest → Belong words before idle zeroth rest later

-- before any update k is 0, and the first words are old
abbrev pub BeforeAny : Type 0
BeforeAny =
    (words : List ℕ) (steps : List Step) → NoneStores (start words) steps →
    (source : Source) (n : ℕ) → In words source (cut_after words steps n) 0
