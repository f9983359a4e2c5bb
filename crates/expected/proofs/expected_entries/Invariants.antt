-- `expected_entries` meets its contract: the edges before `e` are noted.
use Rattle.std.proofs.Common.{map, ◌≡◌, take, replicate}
use Rattle.std.specs.List.{fold}
use Rattle.edge.specs.Edge.{Reads}
use Rattle.edge.specs.declared.Edge.{Edge}
use Rattle.expected.specs.Expected.{noted}
use Rattle.layout.specs.Size.{entries}
use Rattle.expected.proofs.expected_entries.Given as goal

abbrev pub invariant-loop-e : goal.invariant-loop-e
invariant-loop-e g l =
    (read : g.row.E.Denot → Edge) → Reads g.E.Into.converts read →
    l.wanted ≡ fold (noted l.frames l.dom l.span) (replicate entries 0) (map read (take l.e-index l.edges))
