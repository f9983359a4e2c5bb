-- `elsewhere` meets its contract: the word is that of the places from i on.
use Prim.Native.Nat.{◌-◌}
use mathlib.Core.Path.{◌≡◌}
use lib.ListN.{drop}
use Rattle.judge_translation.specs.Answer.{elsewhere_of}
use Rattle.judge_translation.proofs.elsewhere.Given as goal

abbrev pub invariant-loop-i : goal.invariant-loop-i
invariant-loop-i l = elsewhere_of l.places l.named l.index ≡ elsewhere_of (drop l.i l.places) l.named l.index
