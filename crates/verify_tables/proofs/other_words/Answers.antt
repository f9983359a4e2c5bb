-- `other_words` meets its contract: a refused word decides, and one that is let by is passed over, with the zeros after it.
use mathlib.Core.Path.{◌≡◌, ap, ◌∙◌}
use Rattle.std.proofs.Common.{rules}
use Rattle.layout.specs.Size.{entries}
use Rattle.refusal.proofs.Loop.{refuses, passes, ends}
use Rattle.refusal.specs.Outcome.{outcome_of}
use Rattle.refusal.specs.Table.{first}
use Rattle.verify_rows.proofs.Range.{rest_walk}
use Rattle.verify_tables.proofs.other_words.Goals as goal

pub returns-in_err-other_word : goal.returns-in_err-other_word
returns-in_err-other_word c =
    let back : c.from_residual.result ≡ c.other_word.result = search rules in
    ap outcome_of back
    ∙ refuses (rest_walk _ entries) c.loop-j.j c.loop-j.invariant c.loop-j-test.true
    (c.in_err-other_word.was {u = tt}) c.other_word.ensures

pub loop-j-preserved : goal.loop-j-preserved
loop-j-preserved c =
    passes (rest_walk _ entries) c.loop-j.j c.loop-j.invariant c.loop-j-test.true
    (c.in_ok-other_word.was {u = tt}) c.other_word.ensures
    ∙ ap first (c.past_zeros-j-in-loop-j.ensures.2 c.args.l)

pub returns : goal.returns
returns c = ends (rest_walk _ entries) c.loop-j.j c.loop-j.invariant c.loop-j-test.false
