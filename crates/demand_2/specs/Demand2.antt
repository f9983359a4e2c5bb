-- Demand 2: from zeroed tables and an accepted layout, each mapped address walks to its window's byte with its access and all other
-- addresses to nothing; and the manual's translation gives exactly the same bytes for reading, for writing and for execution.
use Rattle.std.specs.Prelude.{ℕ, ◌<◌, List, map, ◌≡◌, replicate}
use Rattle.arena.specs.Encoded.{target}
use Rattle.descent.specs.Descent.{Words, words_of}
use Rattle.descent.specs.Path.{PathAgrees}
use Rattle.encode.specs.Encoding.{Encoding}
use Rattle.layout.specs.Layout.{tables_of}
use Rattle.layout.specs.Size.{board_limit, arena_length}
use Rattle.layout.specs.declared.Layout.{Layout}
use Rattle.manual.specs.Translation.{Machine, Access, translation, allowed}
use Rattle.refusal.specs.Table.{accepted, first}
use Rattle.rows.specs.Rows.{guard_rows}
use Rattle.walk.specs.Walk.{walk_of}
use Rattle.window_reach.specs.Granted.{granted}

-- the six table addresses
abbrev pub addresses_of : Layout → List ℕ
addresses_of l = map (λ t. t.pa) (tables_of l)

-- over these words, at every address and whatever stands outside the arena
pub record Reaches (l : Layout) (base sup : List ℕ) (words : Words) (x : ℕ) : Type 0 where
  pub walks : walk_of (addresses_of l) (λ left. words) x ≡ granted l base sup x
  pub translates :
      (m : Machine) (a : Access) → translation m (addresses_of l) (λ left. words) a x ≡ allowed a (granted l base sup x)

-- where encoding is let by, over any words that are the target wherever a walk to the address reads them
abbrev pub Demand2 : Type 0
Demand2 =
    (l : Layout) (base sup : List ℕ) (words : Words) →
    first (guard_rows board_limit base sup l) ≡ accepted → (x : ℕ) →
    PathAgrees (addresses_of l) words (target l base sup) x → Reaches l base sup words x

-- as over words that are the target at every place
abbrev pub Demand2Whole : Type 0
Demand2Whole =
    (l : Layout) (base sup : List ℕ) (words : Words) →
    first (guard_rows board_limit base sup l) ≡ accepted →
    ((i : ℕ) → i < arena_length → words i ≡ target l base sup i) → (x : ℕ) → Reaches l base sup words x

-- in particular over what `encode` leaves from zeros
abbrev pub Demand2Encoded : Type 0
Demand2Encoded =
    (l : Layout) (base sup new : List ℕ) →
    Encoding board_limit l base sup (replicate arena_length 0) accepted new →
    (x : ℕ) → Reaches l base sup (words_of new) x
