-- What the exported calls answer: a number, 0 where accepted, and eight values; and what the filling leaves in both maps.
use Rattle.std.specs.Prelude.{ℕ, List, [], ◌∷◌, map, ◌≡◌}
use Rattle.annex.specs.Annex.{annex_page, annex_left, annex_outcome, annex_told}
use Rattle.arena.specs.Over.{Over}
use Rattle.authority.specs.Authority.{authority_rows}
use Rattle.edge.specs.declared.Edge.{Edge}
use Rattle.encode.specs.Encoding.{left}
use Rattle.exact.specs.Exact.{exact_rows}
use Rattle.exposed.specs.Exposed.{exposure, exposure_values}
use Rattle.filling.specs.Filling.{Filling, filled}
use Rattle.grant.specs.Grant.{grant_of}
use Rattle.layout.specs.Layout.{layout_of}
use Rattle.layout.specs.Size.{board_limit}
use Rattle.p2m.specs.Frame.{span_named}
use Rattle.reach.specs.Reach.{reach_values}
use Rattle.refusal.specs.Outcome.{outcome_words}
use Rattle.refusal.specs.Table.{Outcome, first}
use Rattle.refusal.specs.Told.{Told, values_if, after, told_words}
use Rattle.rows.specs.Rows.{refusals, arena_guard_rows}
use Rattle.update.specs.Step.{step_rows, left_by}
use Rattle.verify_rows.specs.Verifying.{verify_rows}
use Rattle.walk.specs.Walk.{walked_from}

abbrev pub validate_answer : List ℕ → List ℕ
validate_answer numbers = outcome_words (first (refusals (layout_of numbers)))

-- outcome, base, super
abbrev pub filling_words : Filling → List (List ℕ)
filling_words f = outcome_words f.outcome ∷ f.base ∷ f.sup ∷ []

abbrev pub fill_answer : List Edge → List (List ℕ) → ℕ → List ℕ → List ℕ → List (List ℕ)
fill_answer edges frames dom base sup = filling_words (filled frames dom edges base sup)

abbrev pub encode_outcome : List ℕ → List ℕ → List ℕ → List ℕ → Outcome
encode_outcome numbers base sup arena = first (arena_guard_rows board_limit arena base sup (layout_of numbers))

-- the answer, and the words at exit
pub record EncodeAnswer (numbers base sup old answer new : List ℕ) : Type 0 where
  pub outcome : answer ≡ outcome_words (encode_outcome numbers base sup old)
  pub words : Over (left (encode_outcome numbers base sup old) (layout_of numbers) base sup) old new

abbrev pub step_outcome : List ℕ → List ℕ → List ℕ → ℕ → List ℕ → Outcome
step_outcome numbers base sup n arena = first (step_rows (layout_of numbers) base sup n arena)

-- the answer, and the words at exit
pub record StepAnswer (numbers base sup : List ℕ) (n : ℕ) (old answer new : List ℕ) : Type 0 where
  pub outcome : answer ≡ outcome_words (step_outcome numbers base sup n old)
  pub words : new ≡ left_by (step_outcome numbers base sup n old) (layout_of numbers) base sup n old

-- by the arena, the six table addresses and the address
abbrev pub walk_answer : List ℕ → List ℕ → ℕ → List ℕ
walk_answer arena tables x = told_words (values_if reach_values) (walked_from arena tables x)

abbrev pub verify_answer : List ℕ → List ℕ → List ℕ → List ℕ → List ℕ
verify_answer numbers arena base sup = outcome_words (first (verify_rows arena base sup (layout_of numbers)))

abbrev pub exposed_answer : List ℕ → List ℕ
exposed_answer numbers =
    let l = layout_of numbers in told_words (values_if exposure_values) (after (first (refusals l)) (exposure l))

abbrev pub bytes_told : Told ℕ → List ℕ
bytes_told t = told_words (λ n. n ∷ []) t

-- the answer, and the buffer at exit
pub record PageAnswer (numbers base sup old answer new : List ℕ) : Type 0 where
  pub outcome : answer ≡ bytes_told (annex_told old base sup (layout_of numbers))
  pub page :
      new ≡ annex_left (annex_outcome old base sup (layout_of numbers)) (annex_page (layout_of numbers) base sup) old

abbrev pub authorized_answer : ℕ → List ℕ → List (List ℕ) → List (List ℕ) → List ℕ
authorized_answer dom leaves frames grants = outcome_words (first (authority_rows frames (map grant_of grants) dom leaves))

abbrev pub exact_answer : ℕ → List ℕ → ℕ → List Edge → List (List ℕ) → List ℕ
exact_answer dom leaves span edges frames =
    outcome_words (first (exact_rows frames dom (span_named span) edges leaves))
