-- What a call of `encode` answers, and what it leaves in the arena.
use Rattle.std.specs.Prelude.{ℕ, List, ◌≡◌}
use Rattle.arena.specs.Encoded.{encoded}
use Rattle.arena.specs.Over.{Over}
use Rattle.layout.specs.declared.Layout.{Layout}
use Rattle.refusal.specs.Table.{Outcome, accepted, refused, first}
use Rattle.rows.specs.Rows.{arena_guard_rows}

-- a refusal leaves every word as found
abbrev pub left : Outcome → Layout → List ℕ → List ℕ → ℕ → ℕ → ℕ
left accepted l base sup i old = encoded l base sup i old
left (refused r) l base sup i old = old

-- rows 1 to 14 are tested first; what is encoded does not depend on the limit
pub record Encoding (limit : ℕ) (l : Layout) (base sup old : List ℕ) (outcome : Outcome) (new : List ℕ) : Type 0 where
  pub answer : outcome ≡ first (arena_guard_rows limit old base sup l)
  pub words : Over (left outcome l base sup) old new
