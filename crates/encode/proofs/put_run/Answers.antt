-- `put_run` meets its contract: m words of the run are stored.
use Rattle.arena.proofs.Over.{over_none, over_more}
use Rattle.encode.proofs.put_run.Goals as goal

pub loop-m-init : goal.loop-m-init
loop-m-init g c = λ f is. over_none _ _ f _

pub loop-m-preserved : goal.loop-m-preserved
loop-m-preserved g c = λ f is. over_more _ _ c.loop-m.m _ f _ _ _ (is _ _ c.word.ensures) (c.loop-m.invariant f is) c.put.ensures
