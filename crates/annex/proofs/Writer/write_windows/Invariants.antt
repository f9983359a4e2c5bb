-- `write_windows` meets its contract: the slots before `from` are gone through.
use Rattle.std.proofs.Common.{◌≡◌, ℕ, ◌+◌, ◌-◌, ◌*◌, ◌≤◌}
use Rattle.annex.proofs.Slots.{slots_from}
use Rattle.annex.specs.Onward.{Onward}
use Rattle.annex.specs.Windows.{granted_over}
use Rattle.layout.specs.Size.{entries, l1_span, input_limit}
use Rattle.runs.specs.Runs.{runs_from}
use Rattle.annex.proofs.Writer.write_windows.Given as goal

abbrev pub invariant-loop-w : goal.invariant-loop-w
invariant-loop-w l = record {
  same_page : l.self.page.ghost_name ≡ l.initial.self.page.ghost_name;
  within : l.from ≤ entries;
  few : l.self.at ≤ l.from * l1_span;
  onward :
      (n : ℕ) →
      let f = granted_over l.maps.base.now l.maps.sup.now l.exempt l.ws in
      Onward l.initial.self (runs_from f 0 (input_limit + n)) l.self (slots_from f l.from n);
}

abbrev pub decreases-loop-w : goal.decreases-loop-w
decreases-loop-w l = entries - l.from
