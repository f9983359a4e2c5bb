-- The differences, by computing.
use mathlib.Core.Path.{refl}
use Rattle.descent.specs.Descent.{fetch_from, descend}
use Rattle.manual.specs.Differences.{Differences}
use Rattle.manual.specs.Translation.{level1, level2, level3, translation}
use Rattle.walk.specs.Walk.{walk_of}

pub differences : Differences
unfolding fetch_from descend walk_of level1 level2 level3 translation
differences =
    record {
      flag_walked = refl;
      flag = λ m a. refl;
      l1_block_walked = refl;
      l1_block = λ m. refl;
      write_only_walked = refl;
      write_only = λ m. refl;
      write_only_read = λ m. refl;
      execute_00_walked = refl;
      execute_00 = λ w el. refl;
      execute_10_walked = refl;
      execute_10 = λ w el. refl;
      xnx_11_walked = refl;
      xnx_11 = λ w. refl;
      no_xnx_11 = λ w el. refl;
      xnx_01_walked = refl;
      xnx_01 = λ w. refl;
      outside_walked = refl;
      outside = refl;
    }
