-- `encode_at` meets its contract: rows 1 to 14, then the words.
use Rattle.std.proofs.Common.{sym, ap, ◌∙◌}
use Rattle.accepted_facts.proofs.Guarded.{arena_guarded_facts}
use Rattle.refusal.specs.Outcome.{outcome_of}
use Rattle.encode.proofs.Fits.{base_fits, supers_fit, devices_fit}
use Rattle.encode.proofs.encode_at.Goals as goal

pub unwrap-requires : goal.unwrap-requires
unwrap-requires c =
    let a = c.args in
    let let_by = sym c.guard_at.ensures ∙ ap outcome_of c.in_ok-guard_at.was in
    let facts = arena_guarded_facts a.limit a.arena.now a.maps.base.now a.maps.sup.now a.l let_by in
    c.as_mut_array.ensures.variant.1 facts.0

pub encode_guarded-requires : goal.encode_guarded-requires
encode_guarded-requires c =
    let a = c.args in
    let let_by = sym c.guard_at.ensures ∙ ap outcome_of c.in_ok-guard_at.was in
    let facts = arena_guarded_facts a.limit a.arena.now a.maps.base.now a.maps.sup.now a.l let_by in
    record {
      base_len_bound = base_fits _ _ _ _ facts.1;
      supers_fit = supers_fit _ _ _ _ facts.1;
      all = devices_fit _ _ _ _ facts.1;
    }

pub returns : goal.returns
returns c =
    let whole = rw c.unwrap.ensures at c.as_mut_array.ensures.cases in
    record { answer = sym (ap outcome_of c.in_ok-guard_at.was) ∙ c.guard_at.ensures; words = rw whole.same at c.encode_guarded.ensures }
