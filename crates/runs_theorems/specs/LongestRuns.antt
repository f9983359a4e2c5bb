-- What request M-100 says of the lines of a page: every reached address lies in one run, and none else; runs are in address order, and none
-- can be lengthened. There is one such list for whatever addresses reach.
use Rattle.std.specs.Prelude.{Option, Some, None}
use Rattle.reach.specs.declared.Reach.{Reach}
use Rattle.std.specs.Prelude.{ℕ, suc, ◌+◌, ◌-◌, ◌≤◌, ◌<◌, Bool, true, ◌&&◌, List, [], ◌∷◌, ◌≡◌, leb}
use Rattle.fields.specs.Named.{pick}
use Rattle.refusal.specs.All.{All, AllPairs}
use Rattle.runs.specs.Runs.{runs_from}
use Rattle.runs.specs.declared.Run.{Run}

-- an address lies in a run: neither before its first nor after its last
abbrev pub holds : Run → ℕ → Bool
holds r x = leb r.first x && leb x r.last

-- what a run says that an address reaches: the run's output plus the distance, and its access
abbrev pub run_reach : Run → ℕ → Option Reach
run_reach r x = Some (record { pa = r.pa + (x - r.first); perm = r.perm; xn = r.xn })

-- what a list of runs says: nothing where the address lies in none
unfoldable pub reach_in : List Run → ℕ → Option Reach
reach_in [] x = None
reach_in (r ∷ rs) x = pick (holds r x) (run_reach r x) (reach_in rs x)

-- what is reached just before a run could be its first address: the output before its own, with equal access
abbrev pub Leads : Option Reach → Run → Type 0
Leads (Some a) r = (suc a.pa ≡ r.pa) × (a.perm ≡ r.perm) × (a.xn ≡ r.xn)
Leads None r = ⊥

-- it can be lengthened at neither end
pub record Longest (f : ℕ → Option Reach) (r : Run) : Type 0 where
  pub end : f (suc r.last) ≡ run_reach r (suc r.last) → ⊥
  pub front : (x : ℕ) → suc x ≡ r.first → Leads (f x) r → ⊥

-- of what addresses reach
pub record LongestRuns (f : ℕ → Option Reach) (rs : List Run) : Type 0 where
  -- every reached address lies in a run, with its output and access, and none else
  pub covers : (x : ℕ) → f x ≡ reach_in rs x
  -- and in one alone
  pub once : (x : ℕ) → AllPairs (λ r s. holds r x ≡ true → holds s x ≡ true → ⊥) rs
  pub proper : All (λ r. r.first ≤ r.last) rs
  pub ascending : AllPairs (λ r s. r.last < s.first) rs
  pub longest : All (Longest f) rs

-- the runs of the first n addresses are these, where no other address reaches anything
abbrev pub RunsAreLongest : Type 0
RunsAreLongest = (f : ℕ → Option Reach) (n : ℕ) → ((x : ℕ) → n ≤ x → f x ≡ None) → LongestRuns f (runs_from f 0 n)

-- and no other list is
abbrev pub OneListOfRuns : Type 0
OneListOfRuns = (f : ℕ → Option Reach) (rs ts : List Run) → LongestRuns f rs → LongestRuns f ts → rs ≡ ts
