-- `first_table` meets its contract: the first table is that of the tables from this one on.
use Rattle.std.proofs.Common.{◌≡◌, drop}
use Rattle.exposed.specs.Exposed.{first_table}
use Rattle.exposed.proofs.first_table.Given as goal

abbrev pub invariant-loop-t : goal.invariant-loop-t
invariant-loop-t l = first_table l.t-items l.ws ≡ first_table (drop l.t-index l.t-items) l.ws
