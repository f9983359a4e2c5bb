-- `write` meets its contract: the windows are those of an accepted layout.
use Rattle.std.proofs.Common.{◌≡◌, ℕ, ◌-◌, List, Option, sym, ap, subst, ◌∙◌, rules}
use Rattle.annex.proofs.Placed.{placed, grants}
use Rattle.annex.proofs.Slots.{past_slots}
use Rattle.annex.proofs.Writing.{with_bytes, with_runs, none_yet, finishes}
use Rattle.annex.specs.Annex.{address_count, annex_runs, annex_page}
use Rattle.annex.specs.Windows.{granted_over, Placed}
use Rattle.layout.proofs.Counted.{counted}
use Rattle.layout.specs.Size.{input_limit}
use Rattle.layout.specs.Window.{windows_with, windows_of}
use Rattle.layout.specs.declared.Window.{Window}
use Rattle.reach.specs.declared.Reach.{Reach}
use Rattle.runs.specs.Page.{page_of}
use Rattle.runs.specs.Runs.{runs_from}
use Rattle.annex.proofs.write.Goals as goal
use Rattle.annex.proofs.write.Goals.{After-windows_of}

-- the windows are the layout's
are_windows : (c : After-windows_of) → c.windows_of.result ≡ windows_of c.args.l
are_windows c = c.windows_of.ensures ∙ ap (windows_with c.args.l) (counted c.args.l c.in-Some.counted (sym c.super_window.ensures ∙ c.in-Some.is)).1

pub write_windows-requires-clause-placed : goal.write_windows-requires-clause-placed
write_windows-requires-clause-placed c =
    subst Placed (sym (are_windows (goal.at.write_windows-requires-clause-placed c).After-windows_of)) (placed c.args.l c.requires.layout)

pub returns : goal.returns
unfolding annex_runs
returns c =
    let a = c.args in
    let base = a.maps.base.now in
    let sup = a.maps.sup.now in
    let ws = c.windows_of.result in
    let f = granted_over base sup a.l.sup_wx_exempt ws in
    let n = address_count - input_limit in
    let text = page_of (runs_from f 0 address_count) in
    let old = a.page.now in
    let done = c.write_windows.new.self in
    let placed_here = subst Placed (sym (are_windows (goal.at.returns c).After-windows_of)) (placed a.l c.requires.layout) in
    let all = c.write_windows.ensures.onward n text old (none_yet text old) in
    let gone = with_runs done.begun (past_slots base sup a.l.sup_wx_exempt ws placed_here n) all in
    let page : annex_page a.l base sup ≡ text =
    ap (λ (g : ℕ → Option Reach). page_of (runs_from g 0 address_count)) (grants a.l base sup)
    ∙ ap (λ (vs : List Window). page_of (runs_from (granted_over base sup a.l.sup_wx_exempt vs) 0 address_count)) (sym (are_windows (goal.at.returns c).After-windows_of)) in
    with_bytes {b = c.finish.new.self.page.now} (search rules)
    (rw (page, c.finish.ensures.value, c.finish.ensures.page) (finishes text old done.begun done.page.now done.at gone))
