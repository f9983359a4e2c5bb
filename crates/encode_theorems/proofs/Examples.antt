-- The words of scene S, by computing.
use mathlib.Core.Path.{refl}
use Rattle.arena.specs.Encoded.{encoded, stored, word_at, upper_runs, leaf_runs}
use Rattle.layout.specs.Layout.{layout_of}
use Rattle.encode_theorems.specs.Examples.{WordsS}

pub words_s : WordsS
unfolding layout_of encoded stored word_at upper_runs leaf_runs
words_s =
    record {
      device_table = refl;
      data_table = refl;
      super_table = refl;
      page_table = refl;
      page = refl;
      super = refl;
      device = refl;
      no_image = refl;
      no_page = refl;
      no_super = refl;
      no_such_super = refl;
      device_absent = refl;
    }
