-- `each_from` meets its contract: a refused element decides, and one that is let by is passed over.
use mathlib.Core.Path.{◌≡◌, sym, ap, ◌∙◌}
use lib.ListN.{get_or}
use Rattle.std.proofs.Common.{rules}
use Rattle.refusal.specs.Outcome.{outcome_of}
use Rattle.refusal.specs.Table.{first}
use Rattle.refusal.proofs.Sequence.{next, stop}
use Rattle.refusal.proofs.Parts.{from_at, from_end}
use Rattle.refusal.proofs.first.each_from.Goals as goal

pub returns-in_err-check : goal.returns-in_err-check
returns-in_err-check g c rows told =
    let i = c.loop-i.i in
    let x = c.index-xs-i.result in
    let back : c.from_residual.result ≡ c.check.result = search rules in
    let here : outcome_of c.check.result ≡ first (rows i (get_or c.args.xs.now i x)) =
    told i x c.check.result c.check.ensures ∙ ap (λ y. first (rows i y)) c.index-xs-i.is
    in
    ap outcome_of back
    ∙ stop _ _ c.check.result _ (from_at c.args.xs.now i x c.loop-i-test.true rows) (c.in_err-check.was {u = tt}) here
    ∙ sym (c.loop-i.invariant rows told)

pub loop-i-preserved : goal.loop-i-preserved
loop-i-preserved g c rows told =
    let i = c.loop-i.i in
    let x = c.index-xs-i.result in
    let here : outcome_of c.check.result ≡ first (rows i (get_or c.args.xs.now i x)) =
    told i x c.check.result c.check.ensures ∙ ap (λ y. first (rows i y)) c.index-xs-i.is
    in
    c.loop-i.invariant rows told
    ∙ next _ _ c.check.result (from_at c.args.xs.now i x c.loop-i-test.true rows) (c.in_ok-check.was {u = tt}) here

pub returns : goal.returns
returns g c rows told =
    from_end c.args.xs.now c.loop-i.i c.loop-i-test.false rows ∙ sym (c.loop-i.invariant rows told)
