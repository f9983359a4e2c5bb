-- Scene S, with edges that fill its maps: a list of steps that demand 3 speaks of, and an address that is reached.
use Rattle.std.specs.Prelude.{Option, None}
use Rattle.reach.specs.declared.Reach.{Reach}
use Rattle.std.specs.Prelude.{ℕ, ◌-◌, true, List, [], ◌∷◌, ◌≡◌, length, replicate}
use Rattle.demand_2.specs.Demand2.{addresses_of}
use Rattle.demand_2.specs.Tabled.{S, reach}
use Rattle.demand_3.specs.Completing.{full_update, Completes}
use Rattle.demand_3.specs.Cuts.{cut_after}
use Rattle.demand_3.specs.Sources.{Source}
use Rattle.descent.specs.Descent.{words_of}
use Rattle.edge.specs.Edge.{edges_of}
use Rattle.filling.specs.Filling.{filling, filled}
use Rattle.layout.specs.Size.{arena_length}
use Rattle.leafmap_theorems.specs.Examples.{edge}
use Rattle.perm.specs.declared.Perm.TheVariants.{Rw}
use Rattle.refusal.specs.Table.{row, Outcome, accepted, refused, first}
use Rattle.rows.specs.Examples.{base_s, sup_s}
use Rattle.update.specs.Step.{halfway, step_count, step_rows}
use Rattle.walk.specs.Walk.{walk_of}

-- domain 3 owns frame 0, a page table L1, and frame 1, an L2: base 1 Rw, super 2 Rx
abbrev pub source_s : Source
source_s =
    record {
      edges = edges_of (edge 0 0 1 1 1 0 ∷ edge 1 0 2 0 1 1 ∷ []);
      frames = (3 ∷ 2 ∷ []) ∷ (3 ∷ 3 ∷ []) ∷ [];
      domain = 3;
      layout = S;
    }

-- what an address reaches after n steps of the update to S
abbrev pub walk_after : List ℕ → ℕ → ℕ → Option Reach
walk_after words n x =
    walk_of (addresses_of S) (λ r. words_of (cut_after words (full_update source_s base_s sup_s) n).words) x

-- what step n to S answers over zeros, with a super map
abbrev pub answer_s : ℕ → List ℕ → Outcome
answer_s n sup = first (step_rows S base_s sup n (replicate arena_length 0))

-- row 26's example, the step before it, and that 14 comes before 26
pub record AnswersS : Type 0 where
  pub past_last : answer_s step_count sup_s ≡ refused (row 26 [])
  pub last_step : answer_s (step_count - 1) sup_s ≡ accepted
  pub fourteen_first : answer_s step_count (0 ∷ 0 ∷ 3 ∷ 0 ∷ 1 ∷ []) ≡ refused (row 14 (4 ∷ []))

pub record UpdateS : Type 0 where
  pub answers : AnswersS
  pub fills :
      filled source_s.frames 3 source_s.edges (9 ∷ 9 ∷ []) (9 ∷ 9 ∷ 9 ∷ []) ≡ filling base_s sup_s accepted
  -- from any 3,072 words
  pub completes :
      (words : List ℕ) → length words ≡ arena_length → Completes (addresses_of S) words [] source_s base_s sup_s
  pub half_way : (words : List ℕ) → length words ≡ arena_length → walk_after words halfway 0x8000_1234 ≡ None
  pub last :
      (words : List ℕ) → length words ≡ arena_length → walk_after words step_count 0x8000_1234 ≡ reach 0x5000_1234 Rw true
