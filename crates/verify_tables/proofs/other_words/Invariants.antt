-- `other_words` meets its contract: the first row is that of the words from j on.
use Prim.Native.Nat.{◌-◌}
use mathlib.Core.Path.{◌≡◌}
use Rattle.layout.specs.Size.{entries}
use Rattle.refusal.specs.Table.{first}
use Rattle.verify_rows.specs.Verifying.{other_rows}
use Rattle.verify_tables.specs.Sooner.{other_rows_from}
use Rattle.verify_tables.proofs.other_words.Given as goal

abbrev pub invariant-loop-j : goal.invariant-loop-j
invariant-loop-j l = first (other_rows l.arena l.l l.table) ≡ first (other_rows_from l.arena l.l l.table l.j)

abbrev pub decreases-loop-j : goal.decreases-loop-j
decreases-loop-j l = entries - l.j
