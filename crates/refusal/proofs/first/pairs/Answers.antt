-- `pairs` meets its contract: a refused pair decides, and those that are let by are passed over.
use mathlib.Core.Path.{◌≡◌, sym, ap, ◌∙◌}
use native.Mathlib.Omega.{arith}
use Rattle.std.proofs.Common.{rules, length, ◌≤◌}
use Rattle.refusal.specs.Outcome.{outcome_of}
use Rattle.refusal.specs.Table.{pairs}
use Rattle.refusal.proofs.Parts.{pairs_end}
use Rattle.refusal.proofs.Sequence.{next, stop}
use Rattle.refusal.proofs.first.pairs.Goals as goal

pub returns-in_err-each : goal.returns-in_err-each
unfolding pairs
returns-in_err-each g c rows told =
    let x = c.in-Some.x.now in
    let back : c.from_residual.result ≡ c.each.result = search rules in
    let here = c.each.ensures (rows x) (λ y r e. told x y r (search rules)) in
    ap outcome_of back
    ∙ stop _ (pairs rows c.in-Some.later.now) c.each.result _ (ap (pairs rows) c.in-Some.ensures.cases.0) (c.in_err-each.was {u = tt}) here
    ∙ sym (c.loop-x.invariant rows told)

pub loop-x-preserved : goal.loop-x-preserved
unfolding pairs
loop-x-preserved g c rows told =
    let x = c.in-Some.x.now in
    let here = c.each.ensures (rows x) (λ y r e. told x y r (search rules)) in
    c.loop-x.invariant rows told
    ∙ next _ (pairs rows c.in-Some.later.now) c.each.result (ap (pairs rows) c.in-Some.ensures.cases.0) (c.in_ok-each.was {u = tt}) here

pub returns : goal.returns
returns g c rows told =
    let none : length c.loop-x.rest.now ≤ 0 = omega (arith, c.in_default.ensures.cases) in
    pairs_end c.loop-x.rest.now 0 none rows ∙ sym (c.loop-x.invariant rows told)
