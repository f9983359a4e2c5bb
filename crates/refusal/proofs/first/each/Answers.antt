-- `each` meets its contract: a refused element decides, and one that is let by is passed over.
use mathlib.Core.Path.{◌≡◌, sym, ap, ◌∙◌}
use lib.ListN.{get_or}
use Rattle.std.proofs.Common.{rules}
use Rattle.refusal.specs.Outcome.{outcome_of}
use Rattle.refusal.specs.Table.{first}
use Rattle.refusal.proofs.Sequence.{next, stop}
use Rattle.refusal.proofs.Parts.{each_at, each_end}
use Rattle.refusal.proofs.first.each.Goals as goal

pub returns-in_err-check : goal.returns-in_err-check
returns-in_err-check g c rows told =
    let x = c.x-item.result in
    let e : outcome_of c.check.result ≡ first (rows x) = told x c.check.result c.check.ensures in
    let back : c.from_residual.result ≡ c.check.result = search rules in
    let split = each_at c.args.xs.now c.loop-x.x-index x c.loop-x-test.true rows in
    let here : outcome_of c.check.result ≡ first (rows (get_or c.args.xs.now c.loop-x.x-index x)) = e ∙ ap (λ y. first (rows y)) c.x-item.is in
    ap outcome_of back ∙ stop _ _ c.check.result _ split (c.in_err-check.was {u = tt}) here ∙ sym (c.loop-x.invariant rows told)

pub loop-x-preserved : goal.loop-x-preserved
loop-x-preserved g c rows told =
    let x = c.x-item.result in
    let e : outcome_of c.check.result ≡ first (rows x) = told x c.check.result c.check.ensures in
    let split = each_at c.args.xs.now c.loop-x.x-index x c.loop-x-test.true rows in
    let here : outcome_of c.check.result ≡ first (rows (get_or c.args.xs.now c.loop-x.x-index x)) = e ∙ ap (λ y. first (rows y)) c.x-item.is in
    c.loop-x.invariant rows told ∙ next _ _ c.check.result split (c.in_ok-check.was {u = tt}) here

pub returns : goal.returns
returns g c rows told = each_end c.args.xs.now c.loop-x.x-index c.loop-x-test.false rows ∙ sym (c.loop-x.invariant rows told)
