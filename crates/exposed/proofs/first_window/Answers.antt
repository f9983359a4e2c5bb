-- `first_window` meets its contract: the chain finds it.
use Rattle.std.proofs.Common.{◌≡◌, ap, sym, ◌∙◌, rules, tests}
use Rattle.std.proofs.lemmas.Iterator.{YieldsList-from_slice}
use Rattle.std.proofs.lemmas.Iterator.Search.{find_from_yields_List}
use Rattle.std.specs.Option.{option_map}
use Rattle.exposed.proofs.First.{exposed_by, window_found}
use Rattle.exposed.specs.Exposed.{lies_in}
use Rattle.exposed.proofs.first_window.Goals as goal

pub returns : goal.returns
returns c =
    let found = find_from_yields_List (lies_in c.args.t) _ _ c.find.result c.find.ensures.ran (YieldsList-from_slice c.args.ws (cc)) (λ x b q k. search (rules, tests)) in
    let mapped : c.map.result ≡ option_map (exposed_by c.args.t) (option_map (λ w. w.now) c.find.result) = search rules in
    mapped ∙ ap (option_map (exposed_by c.args.t)) found ∙ sym (window_found c.args.t c.args.ws)
