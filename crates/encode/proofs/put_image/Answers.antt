-- `put_image` meets its contract: a block where there is an image, else none.
use Rattle.arena.proofs.Over.{over_none}
use Rattle.encode.proofs.put_image.Goals as goal

pub returns-in_default : goal.returns-in_default
returns-in_default c = rw c.in_default.is (over_none _ _ _ _)
