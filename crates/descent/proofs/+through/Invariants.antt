-- `through` goes down with `left` falling.
use Rattle.descent.proofs.+through.Given as goal

abbrev pub decreases-through : goal.decreases-through
decreases-through l = l.left
