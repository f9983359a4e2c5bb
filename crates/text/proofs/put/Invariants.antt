-- `put` meets its contract: the buffer holds the text up to i.
use Prim.Native.Nat.{◌+◌, ◌-◌, ◌≤◌}
use mathlib.Core.Path.{◌≡◌}
use lib.ListN.{length}
use lib.Seq.{paste}
use Rattle.text.proofs.put.Given as goal

abbrev pub invariant-loop-i : goal.invariant-loop-i
invariant-loop-i l = (l.at + length l.text ≤ length l.initial.out) × (l.i ≤ length l.text) × (l.out ≡ paste l.initial.out l.at l.text l.i) × (length l.out ≡ length l.initial.out)
