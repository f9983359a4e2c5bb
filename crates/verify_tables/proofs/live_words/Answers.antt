-- `live_words` meets its contract: the areas by their numbers are all of them.
use Rattle.std.proofs.Common.{rules, ℕ, get_or}
use mathlib.Core.List.{List, flat_map}
use Rattle.areas.specs.Area.{no_area, live_areas_of}
use Rattle.refusal.specs.Table.{Row}
use Rattle.verify_rows.specs.Verifying.{live_row, range}
use Rattle.verify_tables.proofs.live_words.Goals as goal

pub returns : goal.returns
unfolding range flat_map
returns c =
    let row : ℕ → List Row = λ i. live_row c.args.arena.now (get_or (live_areas_of c.args.l) i no_area) in
    c.each_between.ensures row (λ i r below post. search rules)
