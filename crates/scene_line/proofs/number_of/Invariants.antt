-- the number of the digits so far is n, and i of them are below 16 ^ i
use Rattle.std.proofs.Common.{Some, ◌^◌, ◌<◌, ◌≡◌, take}
use Rattle.scene_line.specs.Line.{with_digits}
use Rattle.scene_line.proofs.number_of.Given as goal

abbrev pub invariant-loop-c : goal.invariant-loop-c
invariant-loop-c l = record {
  below : l.n < 16 ^ l.c-index;
  so_far : with_digits (Some 0) (take l.c-index l.text) ≡ Some l.n;
}
