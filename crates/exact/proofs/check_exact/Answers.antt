-- `check_exact` meets its contract: what is compared is what the edges give.
use Rattle.std.proofs.Common.{◌∙◌}
use Rattle.exact.proofs.Same.{same_compared}
use Rattle.exact.proofs.check_exact.Goals as goal

pub returns : goal.returns
returns g c read says =
    c.compare.ensures ∙ same_compared _ _ _ _ c.args.leaves.now (c.expected_entries-wanted.ensures read says)
