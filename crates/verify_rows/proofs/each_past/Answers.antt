-- `each_past` meets its contract: a number that is let by has no row.
use mathlib.Core.Path.{sym, ap, ◌∙◌}
use Rattle.refusal.specs.Table.{first}
use Rattle.verify_rows.proofs.Range.{rest_at, rest_end}
use Rattle.verify_rows.proofs.each_past.Goals as goal

pub loop-j-preserved : goal.loop-j-preserved
loop-j-preserved g c rows none =
    let j = c.loop-j.j in
    let here = none j c.loop-j-test.true (c.if-not-passes.ensures {u = tt}) in
    rw (c.loop-j.invariant rows none, rest_at rows c.args.count j c.loop-j-test.true, here)

pub returns : goal.returns
returns g c rows none told =
    rest_end rows c.args.count c.loop-j.j c.loop-j-test.false ∙ ap first (sym (c.loop-j.invariant rows none))
