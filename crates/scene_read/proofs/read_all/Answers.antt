-- `read_all` meets its contract: a read that fails leaves what `read_scene` says.
use Rattle.scene.specs.Lent.{held}
use Rattle.scene_read.proofs.SoFar.{on_err}
use Rattle.scene_read.proofs.read_all.Goals as goal

pub returns-in_err-read-clause-err : goal.returns-in_err-read-clause-err
returns-in_err-read-clause-err g c = on_err c.from_residual.result (held c.read_scene.new.scene, c.in_err-read.ensures.err)
