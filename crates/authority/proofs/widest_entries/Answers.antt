-- `widest_entries` meets its contract: all grants are noted.
use Rattle.std.proofs.Common.{arith, ◌≡◌, length, take_all}
use Rattle.authority.proofs.Noted.{noted_all}
use Rattle.layout.specs.Size.{entries}
use Rattle.authority.proofs.widest_entries.Goals as goal

pub returns : goal.returns
returns c =
    let all = take_all c.loop-g.g-index c.args.grants.now c.loop-g-test.false in
    let long : length c.own_entries-widest.result ≡ entries = omega arith in
    noted_all _ _ _ _ _ long c.own_entries-widest.ensures (rw all at c.loop-g.invariant)
