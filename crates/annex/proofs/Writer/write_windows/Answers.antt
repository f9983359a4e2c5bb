-- `write_windows` meets its contract: the slots before `from` are gone through.
use Rattle.std.proofs.Common.{◌≡◌, None, refl, ap, ◌∙◌, arith, add-one, rules}
use Rattle.annex.proofs.Slots.{to_slot, last_slot, window_few, window_ends, window_across}
use Rattle.annex.proofs.Writing.{with_runs}
use Rattle.annex.specs.Windows.{granted_over, next_slot}
use Rattle.layout.specs.Size.{entries}
use Rattle.layout.specs.Window.{slot}
use Rattle.annex.proofs.Writer.write_windows.Goals as goal

pub loop-w-preserved : goal.loop-w-preserved
loop-w-preserved c =
    let a = c.args in
    let base = a.maps.base.now in
    let sup = a.maps.sup.now in
    let exempt = a.exempt in
    let w = c.in-Some.w in
    let there = c.in-Some.ensures.there w refl in
    let few = window_few base sup exempt a.ws c.requires.placed w there.0 there.2 in
    let ended = window_ends base sup exempt a.ws c.requires.placed w there.0 there.2 in
    let over = window_across base sup exempt a.ws c.requires.placed w there.0 there.2 c.loop-w.self c.write_window.new.self c.write_window.ensures.across in
    rw (c.l1_index-from.ensures, add-one) record {
      same_page = c.write_window.ensures.same_page ∙ c.loop-w.invariant.same_page;
      within = few;
      few = omega (arith, c.write_window.ensures.few_after, ended);
      onward = λ n text old wr.
          over n text old
          (with_runs c.loop-w.self.begun
          (to_slot base sup exempt a.ws c.requires.placed c.loop-w.from (slot w) n there.1 (omega (arith, few)) c.in-Some.ensures.none)
          (c.loop-w.invariant.onward n text old wr));
    }

pub returns-clause-onward : goal.returns-clause-onward
returns-clause-onward c =
    let a = c.args in
    let f = granted_over a.maps.base.now a.maps.sup.now a.exempt a.ws in
    let next = next_slot c.next_window.result in
    let none : c.next_window.result ≡ None = search rules in
    let last : next ≡ entries = ap next_slot none in
    λ n text old w.
    with_runs c.loop-w.self.begun
    (to_slot a.maps.base.now a.maps.sup.now a.exempt a.ws c.requires.placed c.loop-w.from next n (omega (arith, last, c.loop-w.invariant.within)) (omega (arith, last)) c.next_window.ensures.none
    ∙ last_slot f next n last)
    (c.loop-w.invariant.onward n text old w)
