-- What is proved of encoded arenas, by document 01 ("Arena").
use Rattle.std.specs.Prelude.{ℕ, List, ◌≡◌, replicate}
use Rattle.arena.specs.Encoded.{overwrite, cleared, encoded, target}
use Rattle.arena.specs.Over.{Over}
use Rattle.encode.specs.Encoding.{Encoding}
use Rattle.layout.specs.Size.{arena_length}
use Rattle.layout.specs.declared.Layout.{Layout}
use Rattle.refusal.specs.Table.{Row, accepted, refused}

-- 'It clears tables 4 to 6 only; in 1 to 3 old words remain unless overwritten': the target stands where there is one
abbrev pub OldWords : Type 0
OldWords =
    (l : Layout) (base sup : List ℕ) (i old : ℕ) →
    encoded l base sup i old ≡ overwrite (cleared i old) (target l base sup i)

-- from zeroed tables, what an accepted call leaves is the target
abbrev pub FromZeros : Type 0
FromZeros =
    (limit : ℕ) (l : Layout) (base sup new : List ℕ) →
    Encoding limit l base sup (replicate arena_length 0) accepted new →
    Over (λ i old. target l base sup i) (replicate arena_length 0) new

-- a refused call leaves the arena as it was
abbrev pub RefusedKeeps : Type 0
RefusedKeeps =
    (limit : ℕ) (l : Layout) (base sup old new : List ℕ) (r : Row) → Encoding limit l base sup old (refused r) new → new ≡ old
