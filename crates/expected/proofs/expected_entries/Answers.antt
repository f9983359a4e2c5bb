-- `expected_entries` meets its contract: all edges are noted.
use Rattle.std.proofs.Common.{take_all}
use Rattle.expected.proofs.After.{noted_all}
use Rattle.expected.proofs.expected_entries.Goals as goal

pub returns : goal.returns
returns g c read says =
    let all = take_all c.loop-e.e-index c.args.edges.now c.loop-e-test.false in
    noted_all _ _ _ _ _ (rw all at (c.loop-e.invariant read says))
