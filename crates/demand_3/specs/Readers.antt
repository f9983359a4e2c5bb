-- Who reads the tables, each read seeing words of its own: the walk, and the manual's translation.
use Rattle.std.specs.Prelude.{Option, None}
use Rattle.reach.specs.declared.Reach.{Reach}
use Rattle.std.specs.Prelude.{ℕ, ◌<◌, List}
use Rattle.descent.specs.Descent.{Words}
use Rattle.manual.specs.Translation.{Machine, Access, Translated, fault, translation, allowed}
use Rattle.walk.specs.Walk.{walk_of}

-- the reads of a walk, by the levels left below them: 2, 1 and 0
abbrev pub EachRead : (ℕ → Type 0) → Type 0
EachRead P = (r : ℕ) → r < 3 → P r

-- the answer over the words that each read sees, and what it is where nothing or a granted answer is reached
pub record Reader (A : Type 0) : Type 0 where
  pub gives : List ℕ → (ℕ → Words) → ℕ → A
  pub nothing : A
  pub reaching : Option Reach → A

abbrev pub the_walk : Reader (Option Reach)
the_walk = record { gives = walk_of; nothing = None; reaching = λ r. r }

abbrev pub the_manual : Machine → Access → Reader Translated
the_manual m a = record { gives = λ tables ws x. translation m tables ws a x; nothing = fault; reaching = allowed a }
