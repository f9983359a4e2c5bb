-- `next_window` meets its contract: of the windows so far, none has a slot before that of the next.
use Rattle.std.proofs.Common.{◌≡◌, ℕ, ◌≤◌, ◌<◌, true, false, Contains, get_or}
use Rattle.std.specs.Option.{ForSome}
use Rattle.annex.specs.Windows.{has_slot, next_slot}
use Rattle.layout.specs.Window.{slot}
use Rattle.window_reach.proofs.Grants.{no_window}
use Rattle.annex.proofs.next_window.Given as goal

abbrev pub invariant-loop-w : goal.invariant-loop-w
invariant-loop-w l = record {
  there : ForSome l.next (λ w. (w.present ≡ true) × (l.from ≤ slot w) × Contains l.w-items w);
  none : (s : ℕ) → l.from ≤ s → s < next_slot l.next → (k : ℕ) → k < l.w-index → has_slot s (get_or l.w-items k no_window) ≡ false;
}
