-- Records are read as they are.
use Rattle.std.proofs.Common.{rules}
use Rattle.std.proofs.lemmas.List.{map-id}
use Rattle.s2.proofs.s2_fill_edges.Goals as goal

pub returns : goal.returns
returns c = let told = rw map-id at (c.leaf_map_from_edges.ensures (λ e. e) (λ x e same. same)) in search rules
