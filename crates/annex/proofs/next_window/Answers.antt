-- `next_window` meets its contract: of the windows so far, none has a slot before that of the next.
use Rattle.std.proofs.Common.{◌≡◌, false, arith}
use Rattle.annex.proofs.Slots.{all_of}
use Rattle.annex.specs.Windows.{has_slot}
use Rattle.window_reach.proofs.Grants.{no_window}
use Rattle.annex.proofs.next_window.Goals as goal

pub returns : goal.returns
returns c =
    record {
      there = c.loop-w.invariant.there;
      none = λ s from less.
          all_of (λ w. has_slot s w ≡ false) no_window c.args.ws (λ k few. c.loop-w.invariant.none s from less k (omega arith));
    }
