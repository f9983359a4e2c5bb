-- `reach_device` meets its contract: the first device that contains the address decides.
use Rattle.std.proofs.Common.{◌≡◌, ap, sym, ◌∙◌, Some, None, rules, tests}
use Rattle.std.proofs.lemmas.Iterator.{YieldsList-from_slice}
use Rattle.std.proofs.lemmas.Iterator.Search.{find_from_yields_List}
use Rattle.std.specs.Option.{option_map}
use Rattle.window_reach.proofs.Grants.{device_found}
use Rattle.window_reach.specs.Granted.{contains}
use Rattle.window_reach.proofs.reach_device.Goals as goal

pub returns-in_err-w : goal.returns-in_err-w
returns-in_err-w c =
    let found = find_from_yields_List (λ d. contains d c.args.ipa) _ _ c.find.result c.find.ensures.ran (YieldsList-from_slice c.args.ds (cc)) (λ d b q k. search (rules, tests)) in
    let none : c.find.result ≡ None = search rules in
    let back : c.from_residual.result ≡ None = search rules in
    back ∙ sym (device_found c.args.ds c.args.ipa None (sym found ∙ ap (option_map (λ d. d.now)) none))

pub returns : goal.returns
returns c =
    let found = find_from_yields_List (λ d. contains d c.args.ipa) _ _ c.find.result c.find.ensures.ran (YieldsList-from_slice c.args.ds (cc)) (λ d b q k. search (rules, tests)) in
    let some : c.find.result ≡ Some c.in_ok-w.w = search rules in
    c.grant.ensures ∙ sym (device_found c.args.ds c.args.ipa (Some c.in_ok-w.w.now) (sym found ∙ ap (option_map (λ d. d.now)) some))
