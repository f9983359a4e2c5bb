-- Request M-100's theorem: for every accepted layout and maps the page lists exactly the addresses that walks of the encoded tables reach,
-- as the longest runs, and nothing else.
use Rattle.std.specs.Prelude.{Option}
use Rattle.reach.specs.declared.Reach.{Reach}
use Rattle.std.specs.Prelude.{ℕ, ◌<◌, List, ◌≡◌, replicate}
use Rattle.annex.specs.Annex.{annex_runs, annex_page}
use Rattle.arena.specs.Encoded.{target}
use Rattle.demand_2.specs.Demand2.{addresses_of}
use Rattle.descent.specs.Descent.{Words, words_of}
use Rattle.encode.specs.Encoding.{Encoding}
use Rattle.layout.specs.Size.{board_limit, arena_length}
use Rattle.layout.specs.declared.Layout.{Layout}
use Rattle.manual.specs.Translation.{Machine, Access, translation, allowed}
use Rattle.refusal.specs.Table.{accepted, first}
use Rattle.rows.specs.Rows.{guard_rows}
use Rattle.runs.specs.declared.Run.{Run}
use Rattle.runs_theorems.specs.LongestRuns.{reach_in, LongestRuns}
use Rattle.runs_theorems.specs.Reading.{PageTells}
use Rattle.walk.specs.Walk.{walk_of}
use Rattle.window_reach.specs.Granted.{granted}

-- these are the longest runs of what addresses reach, and no other list is
pub record Exactly (f : ℕ → Option Reach) (rs : List Run) : Type 0 where
  pub runs : LongestRuns f rs
  pub alone : (ts : List Run) → LongestRuns f ts → ts ≡ rs

-- of what the windows grant; and the page's bytes tell these runs, and no others
pub record OfGrants (l : Layout) (base sup : List ℕ) : Type 0 where
  pub grants : Exactly (granted l base sup) (annex_runs l base sup)
  pub page : PageTells (annex_page l base sup) (annex_runs l base sup)
  pub no_others : (ts : List Run) → PageTells (annex_page l base sup) ts → ts ≡ annex_runs l base sup

abbrev pub AnnexOfGrants : Type 0
AnnexOfGrants = (l : Layout) (base sup : List ℕ) → first (guard_rows board_limit base sup l) ≡ accepted → OfGrants l base sup

-- of what is reached over these words: by the walk, and by each access as the manual translates it, whatever stands outside the arena
pub record OfWords (l : Layout) (base sup : List ℕ) (words : Words) : Type 0 where
  pub walks : Exactly (walk_of (addresses_of l) (λ left. words)) (annex_runs l base sup)
  pub translates :
      (m : Machine) (a : Access) (x : ℕ) →
      translation m (addresses_of l) (λ left. words) a x ≡ allowed a (reach_in (annex_runs l base sup) x)

-- over words that are the target at every place, as after an update's last store
abbrev pub AnnexOfTargets : Type 0
AnnexOfTargets =
    (l : Layout) (base sup : List ℕ) (words : Words) →
    first (guard_rows board_limit base sup l) ≡ accepted →
    ((i : ℕ) → i < arena_length → words i ≡ target l base sup i) → OfWords l base sup words

-- and over what `encode` leaves from zeros
abbrev pub AnnexOfEncoded : Type 0
AnnexOfEncoded =
    (l : Layout) (base sup new : List ℕ) →
    Encoding board_limit l base sup (replicate arena_length 0) accepted new → OfWords l base sup (words_of new)
