-- The walks of a changed S, by computing.
use mathlib.Core.Path.{refl}
use Rattle.arena.specs.Encoded.{encoded, stored, word_at, upper_runs, leaf_runs}
use Rattle.demand_2.specs.BeyondVerification.{BeyondVerification}
use Rattle.descent.specs.Descent.{fetch_from, descend}
use Rattle.layout.specs.Layout.{layout_of}
use Rattle.walk.specs.Walk.{walk_of}
use Rattle.window_reach.specs.Granted.{granted_by}

pub beyond_verification : BeyondVerification
unfolding layout_of encoded stored word_at upper_runs leaf_runs fetch_from descend walk_of granted_by
beyond_verification =
    record {
      word_of_table = refl;
      table_word_granted = refl;
      normal_block = refl;
      normal_block_granted = refl;
      no_access = refl;
      no_access_granted = refl;
    }
