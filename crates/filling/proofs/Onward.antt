-- A step follows what was accepted, and none what was refused.
use mathlib.Core.Path.{◌≡◌}
use Rattle.refusal.specs.Table.{Row, accepted, refused}
use Rattle.filling.specs.Filling.{Filling, onward}

pub on : (step : Filling → Filling) (f : Filling) → f.outcome ≡ accepted → onward step f ≡ step f
unfolding onward
on step f e = rw e

pub off : (step : Filling → Filling) (f : Filling) (r : Row) → f.outcome ≡ refused r → onward step f ≡ f
unfolding onward
off step f r e = rw e
