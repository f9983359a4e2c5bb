-- `reach_in` meets its contract: the devices of an accepted layout lie within its limits.
use mathlib.Core.Bool.{true}
use mathlib.Core.Path.{◌≡◌, sym, subst}
use Rattle.accepted_facts.proofs.Windows.{devices_within}
use Rattle.accepted_facts.specs.Accepted.{Within}
use Rattle.layout.specs.Size.{board_limit}
use Rattle.layout.specs.declared.Window.{Window}
use Rattle.refusal.specs.All.{All}
use Rattle.window_reach.proofs.reach_in.Goals as goal

pub reach_device-requires : goal.reach_device-requires
reach_device-requires c =
    subst (All (λ (w : Window). w.present ≡ true → Within board_limit w)) (sym c.devices.ensures) (devices_within c.requires.layout)
