-- What is known where encoding or an update is let by: rows 1 to 14.
use Rattle.std.specs.Prelude.{ℕ, ◌≤◌, ◌<◌, true, List, ◌≡◌, length, get_or}
use Rattle.layout.specs.Layout.{tables_of}
use Rattle.layout.specs.Size.{entries, arena_length}
use Rattle.layout.specs.declared.Layout.{Layout}
use Rattle.layout.specs.declared.Table.{Table}
use Rattle.refusal.specs.All.{AllPairs}
use Rattle.refusal.specs.Table.{accepted, first}
use Rattle.rows.specs.Rows.{capped, guard_rows, arena_guard_rows}
use Rattle.accepted_facts.specs.Accepted.{Accepted}

-- a map that can be read
pub record Readable (map : List ℕ) : Type 0 where
  pub short : length map ≤ entries
  pub codes : (p : ℕ) → p < length map → get_or map p 0 ≤ 3

-- tables that are present have different addresses
abbrev pub Distinct : Table → Table → Type 0
Distinct s t = s.present ≡ true → t.present ≡ true → s.pa ≡ t.pa → ⊥

pub record Guarded (limit : ℕ) (base sup : List ℕ) (l : Layout) : Type 0 where
  pub base_map : Readable base
  pub sup_map : Readable sup
  pub layout : Accepted limit l
  pub distinct : AllPairs Distinct (tables_of l)
  pub backed : (p : ℕ) → p < length sup → (get_or sup p 0 ≡ 0 → ⊥) → p < l.sup_frames

abbrev pub GuardedFacts : Type 0
GuardedFacts =
    (limit : ℕ) (base sup : List ℕ) (l : Layout) →
    first (guard_rows limit base sup l) ≡ accepted → Guarded (capped limit) base sup l

abbrev pub ArenaGuardedFacts : Type 0
ArenaGuardedFacts =
    (limit : ℕ) (arena base sup : List ℕ) (l : Layout) →
    first (arena_guard_rows limit arena base sup l) ≡ accepted →
    (length arena ≡ arena_length) × Guarded (capped limit) base sup l
