-- `lookup` meets its contract: the word is that of the tables from t on.
use Prim.Native.Nat.{◌*◌, ◌-◌}
use mathlib.Core.Path.{◌≡◌}
use lib.ListN.{drop}
use Rattle.descent.specs.Descent.{words_of, fetch_from, fetch}
use Rattle.judge_translation.specs.Answer.{elsewhere_of}
use Rattle.layout.specs.Size.{entries}
use Rattle.judge_translation.proofs.lookup.Given as goal

abbrev pub invariant-loop-t : goal.invariant-loop-t
invariant-loop-t l = fetch (elsewhere_of l.places l.named l.index) l.tables (words_of l.arena) l.named l.index
    ≡ fetch_from (l.t * entries) (elsewhere_of l.places l.named l.index) (drop l.t l.tables) (words_of l.arena) l.named l.index
