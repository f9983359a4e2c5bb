-- `step` meets its contract: where row 1 lets it by, the place is one of the arena's.
use Rattle.std.proofs.Common.{sym, ap, ◌∙◌, arith}
use Rattle.accepted_facts.proofs.Guarded.{arena_guarded_facts}
use Rattle.layout.specs.Size.{board_limit}
use Rattle.refusal.specs.Outcome.{outcome_of}
use Rattle.update.proofs.step.Goals as goal

pub bounds-arena-place_of : goal.bounds-arena-place_of
bounds-arena-place_of c =
    let a = c.args in
    let let_by = sym c.guard.ensures ∙ ap outcome_of c.in_ok-guard.was in
    let facts = arena_guarded_facts board_limit a.arena.now a.maps.base.now a.maps.sup.now a.l let_by in
    omega (arith, facts.0, c.place_of.ensures.upper_bound)
