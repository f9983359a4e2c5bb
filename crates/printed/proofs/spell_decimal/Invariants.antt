-- the digits that are left stand before those that are written
use Rattle.std.proofs.Common.{◌++◌, ◌≡◌, length, drop}
use Rattle.printed.specs.Line.{decimal}
use Rattle.printed.proofs.spell_decimal.Given as goal

abbrev pub invariant-loop-at : goal.invariant-loop-at
invariant-loop-at l = record {
  long : length l.out ≡ 20;
  left : decimal 20 l.number ≡ decimal l.at l.rest ++ drop l.at l.out;
}
