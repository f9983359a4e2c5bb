-- `each_between` meets its contract: a refused number decides, and one that is let by is passed over.
use mathlib.Core.Path.{◌≡◌, ap, ◌∙◌}
use Rattle.std.proofs.Common.{rules}
use Rattle.refusal.specs.Outcome.{outcome_of}
use Rattle.refusal.proofs.Loop.{refuses, passes, ends}
use Rattle.verify_rows.proofs.Range.{rest_walk}
use Rattle.verify_rows.proofs.each_between.Goals as goal

pub returns-in_err-check : goal.returns-in_err-check
returns-in_err-check g c rows told =
    let j = c.loop-j.j in
    let back : c.from_residual.result ≡ c.check.result = search rules in
    ap outcome_of back
    ∙ refuses (rest_walk rows c.args.end) j (c.loop-j.invariant rows told) c.loop-j-test.true
    (c.in_err-check.was {u = tt}) (told j c.check.result c.loop-j-test.true c.check.ensures)

pub loop-j-preserved : goal.loop-j-preserved
loop-j-preserved g c rows told =
    let j = c.loop-j.j in
    passes (rest_walk rows c.args.end) j (c.loop-j.invariant rows told) c.loop-j-test.true
    (c.in_ok-check.was {u = tt}) (told j c.check.result c.loop-j-test.true c.check.ensures)

pub returns : goal.returns
returns g c rows told = ends (rest_walk rows c.args.end) c.loop-j.j (c.loop-j.invariant rows told) c.loop-j-test.false
