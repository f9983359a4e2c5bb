-- `window_at` meets its contract: the areas by their numbers are all of them.
use Rattle.std.proofs.Common.{rules, ℕ, get_or, refl}
use Rattle.std.proofs.lemmas.Iterator.{YieldsList-from_range}
use Rattle.std.proofs.lemmas.Iterator.Search.{any_from_yields_List}
use Rattle.areas.specs.Area.{no_area, live_areas_of, area_has}
use Rattle.verify_tables.proofs.window_at.Goals as goal

pub returns : goal.returns
returns c =
    any_from_yields_List (λ i. area_has (get_or (live_areas_of c.args.l) i no_area) c.args.j) _ _ _
    c.any.ensures.ran (YieldsList-from_range 0 4 4 refl refl) (λ i b q k. search rules)
