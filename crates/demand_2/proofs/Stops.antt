-- The stops of S, by computing.
use mathlib.Core.Path.{refl}
use Rattle.arena.specs.Encoded.{encoded, stored, word_at, upper_runs, leaf_runs}
use Rattle.demand_2.specs.Stops.{StopsOfS}
use Rattle.descent.specs.Descent.{fetch_from, descend}
use Rattle.layout.specs.Layout.{layout_of}

pub stops_of_s : StopsOfS
unfolding layout_of encoded stored word_at upper_runs leaf_runs fetch_from descend
stops_of_s =
    record {
      page = refl;
      super = refl;
      no_page = refl;
      no_super = refl;
      no_window = refl;
      past_the_limit = refl;
    }
