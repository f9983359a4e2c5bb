-- `leaf_map_from_edges` meets its contract: the edges from `e` on are still to be placed.
use Rattle.edge.specs.Edge.{Reads}
use Rattle.edge.specs.declared.Edge.{Edge}
use Rattle.filling.proofs.Filled.{Left}
use Rattle.filling.specs.Filling.{filling}
use Rattle.refusal.specs.Table.{accepted}
use Rattle.leafmap.proofs.leaf_map_from_edges.Given as goal

abbrev pub invariant-loop-e : goal.invariant-loop-e
invariant-loop-e g l =
    (read : g.row.E.Denot → Edge) → Reads g.E.Into.converts read →
    Left read l.edges l.frames l.dom l.fn.base l.fn.sup l.e-index (filling l.base l.sup accepted)
