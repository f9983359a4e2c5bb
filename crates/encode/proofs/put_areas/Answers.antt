-- `put_areas` meets its contract: the words of the areas so far are stored.
use Rattle.std.proofs.Common.{[], refl, arith}
use Rattle.arena.proofs.Over.{over_area, over_same}
use Rattle.arena.specs.Encoded.{stored}
use Rattle.encode.proofs.put_areas.Goals as goal

pub loop-a-init : goal.loop-a-init
unfolding stored
loop-a-init c = over_same (stored []) _ (λ i old. refl)

pub loop-a-preserved : goal.loop-a-preserved
loop-a-preserved c = over_area c.args.areas c.loop-a.a-index _ _ _ (omega arith) c.loop-a.invariant c.put_area.ensures
