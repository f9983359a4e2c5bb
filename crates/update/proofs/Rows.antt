-- When a step stores: rows 1 to 14 let it by, and it is not past the last.
use Rattle.std.proofs.Common.{ℕ, ◌<◌, ◌≡◌, List, arith}
use Rattle.std.proofs.lemmas.Bool.Decides.{nat_tests}
use Rattle.layout.specs.Size.{board_limit}
use Rattle.layout.specs.declared.Layout.{Layout}
use Rattle.refusal.proofs.Sequence.{in_turn}
use Rattle.refusal.specs.Table.{accepted, first}
use Rattle.rows.specs.Rows.{arena_guard_rows}
use Rattle.update.specs.Step.{step_count, row26, step_rows}

module _ (l : Layout) (base sup : List ℕ) (n : ℕ) (words : List ℕ) where
  pub record Stores : Type 0 where
    pub guarded : first (arena_guard_rows board_limit words base sup l) ≡ accepted
    pub number : n < step_count

  pub stores : first (step_rows l base sup n words) ≡ accepted → Stores
  unfolding step_rows row26 first
  stores e = record { guarded = grind (arith, in_turn, nat_tests); number = grind (arith, in_turn, nat_tests) }

  pub stored : Stores → first (step_rows l base sup n words) ≡ accepted
  unfolding step_rows row26 first
  stored s = grind (arith, in_turn, nat_tests, s.guarded, s.number)
