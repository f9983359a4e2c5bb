-- `each_line` meets its contract: what each call keeps has been kept so far.
use Rattle.std.proofs.Common.{◌≡◌, Bool, true}
use Rattle.replay_lines.proofs.each_line.Given as goal

abbrev pub invariant-loop : goal.invariant-loop
invariant-loop g l =
    goal.F-IsAlwaysCallable g l.replay
    × ((kept : g.row.F.Denot → g.row.R.Denot → g.row.W.Denot → Bool) →
    ((f : _) (i : _) (o : _) (r : _) (j : _) (p : _) (f' : _) → goal.F-step g f i o r j p f' → kept f i.now o.now ≡ true → kept f' j.now p.now ≡ true) →
    kept l.initial.replay l.initial.input l.initial.output ≡ true →
    kept l.replay l.input l.output ≡ true)
