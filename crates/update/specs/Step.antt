-- The update step, by document 01 ("Update"): what step n stores, and what a call answers and leaves.
use Rattle.std.specs.Prelude.{ℕ, ◌-◌, ◌*◌, List, [], ◌∷◌, ◌≡◌, leb, ltb, set}
use Rattle.arena.specs.Encoded.{target}
use Rattle.fields.specs.Named.{pick}
use Rattle.layout.specs.Size.{board_limit, arena_length}
use Rattle.layout.specs.declared.Layout.{Layout}
use Rattle.refusal.specs.Table.{Row, refuse_if, all_rows, Outcome, accepted, refused, first}
use Rattle.rows.specs.Rows.{arena_guard_rows}

-- half-way is after 3,072 stores
abbrev pub halfway : ℕ
halfway = arena_length

-- steps 0 to 6,143
abbrev pub step_count : ℕ
step_count = 2 * arena_length

-- step n below 3,072 stores at word n, a later one at word 6,143 − n
abbrev pub place_of : ℕ → ℕ
place_of n = pick (ltb n halfway) n (step_count - 1 - n)

-- 0, and later what encoding into zeros leaves there
abbrev pub stored_by : Layout → List ℕ → List ℕ → ℕ → ℕ
stored_by l base sup n = pick (ltb n halfway) 0 (target l base sup (step_count - 1 - n))

-- row 26: step past the last
unfoldable pub row26 : ℕ → List Row
row26 n = refuse_if (leb step_count n) 26 []

-- 1 to 14, then 26
unfoldable pub step_rows : Layout → List ℕ → List ℕ → ℕ → List ℕ → List Row
step_rows l base sup n words = all_rows (arena_guard_rows board_limit words base sup l ∷ row26 n ∷ [])

-- one word is set; a refusal leaves every word as found
abbrev pub left_by : Outcome → Layout → List ℕ → List ℕ → ℕ → List ℕ → List ℕ
left_by accepted l base sup n words = set words (place_of n) (stored_by l base sup n)
left_by (refused r) l base sup n words = words

-- the answer, and the words at exit
pub record Stepping (l : Layout) (base sup : List ℕ) (n : ℕ) (old : List ℕ) (outcome : Outcome) (new : List ℕ) : Type 0 where
  pub answer : outcome ≡ first (step_rows l base sup n old)
  pub words : new ≡ left_by outcome l base sup n old
