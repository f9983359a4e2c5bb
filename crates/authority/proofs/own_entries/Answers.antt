-- `own_entries` meets its contract: the entries before m are written, and the others are 0.
use Rattle.std.proofs.Common.{refl, arith}
use Rattle.std.proofs.lemmas.List.{get_or-replicate}
use Rattle.authority.proofs.Noted.{own_all}
use Rattle.layout.specs.Size.{entries}
use Rattle.authority.proofs.own_entries.Goals as goal

pub loop-m-init : goal.loop-m-init
loop-m-init c = record { long = refl; written = λ j h. absurd (omega (arith, h)); blank = λ j from inside. get_or-replicate entries j 0 0 inside }

pub returns : goal.returns
returns c =
    own_all c.args.frames.now c.args.dom c.min.result c.loop-m.m c.loop-m.widest c.min.ensures c.loop-m-test.false
    c.loop-m.invariant.written c.loop-m.invariant.blank c.loop-m.auto.m-end
