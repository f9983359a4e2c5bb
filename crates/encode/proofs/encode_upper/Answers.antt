-- `encode_upper` meets its contract: the words of the areas, the image's block and the table of pages.
use mathlib.Core.List.{[], ◌∷◌, map}
use mathlib.Core.Path.{ap}
use Rattle.areas.specs.Area.{areas_of}
use Rattle.arena.proofs.Over.{over_append, over_placed, over_runs}
use Rattle.arena.specs.Encoded.{area_run, upper_runs}
use Rattle.encode.proofs.encode_upper.Goals as goal

pub returns : goal.returns
unfolding upper_runs
returns c =
    let l = c.args.l in
    let words =
    over_runs _ (map area_run (areas_of l)) _ _ (ap (map area_run) c.areas.ensures) c.put_areas.ensures in
    let pages = over_placed 3 _ _ _ _ _ _ c.l2_index-index.ensures c.table_word.ensures c.put.ensures in
    over_append (map area_run (areas_of l)) (_ ∷ _ ∷ []) _ _ _ words (over_append (_ ∷ []) (_ ∷ []) _ _ _ c.put_image.ensures pages)
