-- `own_entries` meets its contract: the entries before m are written, and the others are 0.
use Rattle.std.proofs.Common.{ℕ, ◌≤◌, ◌<◌, [], ◌≡◌, length, get_or}
use Rattle.authority.specs.Widest.{own_by}
use Rattle.layout.specs.Size.{entries}
use Rattle.authority.proofs.own_entries.Given as goal

abbrev pub invariant-loop-m : goal.invariant-loop-m
invariant-loop-m l = record {
  long : length l.widest ≡ entries;
  written : (j : ℕ) → j < l.m → get_or l.widest j 0 ≡ own_by l.dom (get_or l.listed j []);
  blank : (j : ℕ) → l.m ≤ j → j < entries → get_or l.widest j 0 ≡ 0;
}
