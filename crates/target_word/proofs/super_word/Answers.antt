-- `super_word` meets its contract: the table's one run is that of supers.
use Rattle.std.proofs.Common.{rules}
use Rattle.arena.specs.Encoded.{super_at}
use Rattle.target_word.proofs.super_word.Goals as goal

pub returns : goal.returns
returns c =
    let l = c.args.l in
    let e = c.run_word.ensures 5 (super_at l.sup_pa_base l.sup_wx_exempt c.args.sup.now) (λ m w p. search rules) in
    cc
