-- `put_device` meets its contract: the words of its blocks.
use Rattle.std.proofs.Common.{rules}
use Rattle.arena.specs.Encoded.{device_at}
use Rattle.encode.proofs.put_device.Goals as goal

pub returns : goal.returns
returns c = let e = c.put_run.ensures (device_at c.args.w.ipa) (λ m w p. search rules) in rw (c.l2_index-from.ensures) at e
