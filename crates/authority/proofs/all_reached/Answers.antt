-- `all_reached` meets its contract: what is held to the widest entries is held to owners and grants.
use Rattle.std.proofs.Common.{arith, rules, ◌≤◌, length, ap, sym, ◌∙◌}
use Rattle.authority.proofs.Owned.{by_most, held_all, all_held}
use Rattle.refusal.specs.Table.{first}
use Rattle.authority.proofs.all_reached.Goals as goal

pub returns-then-all_within : goal.returns-then-all_within
returns-then-all_within c =
    let short : length c.args.leaves.now ≤ length c.widest_entries-widest.result = omega (arith, c.requires) in
    all_held _ _ _ _ _ (λ m inside. c.widest_entries-widest.ensures m (omega (arith, inside, c.requires))) short
    (sym c.all_within.ensures ∙ c.if-all_within.true)

pub returns : goal.returns
returns c =
    let a = c.args in
    c.each_from.ensures (by_most a.frames.now a.dom c.widest_entries-widest.result) (λ m x r post. search rules)
    ∙ ap first (held_all _ _ _ _ _ (λ m inside. c.widest_entries-widest.ensures m (omega (arith, inside, c.requires))))
