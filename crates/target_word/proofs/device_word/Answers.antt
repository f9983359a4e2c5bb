-- `device_word` meets its contract: the table's one run is that of the device's blocks.
use Rattle.std.proofs.Common.{rules}
use Rattle.arena.specs.Encoded.{device_at}
use Rattle.target_word.proofs.device_word.Goals as goal

pub returns : goal.returns
returns c =
    let e = c.run_word.ensures 6 (device_at c.args.l.device_base) (λ m w p. search rules) in
    cc
