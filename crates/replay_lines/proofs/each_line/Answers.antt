-- `each_line` meets its contract: a call keeps what was kept before it, and no other step touches the reader or the writer.
use mathlib.Core.Path.{ap, ◌∙◌}
use Rattle.std.proofs.Common.{rules, of_calls}
use Rattle.replay_lines.proofs.each_line.Goals as goal
use Rattle.replay_lines.proofs.each_line.Goals.{else-loop-test, then-loop-test+in_ok-replay+then-not-branch}

pub loop-init : goal.loop-init
loop-init g c = (search rules, λ kept keeps e. e)

pub returns-in_err-replay : goal.returns-in_err-replay
returns-in_err-replay g c kept keeps e =
    (_, keeps _ _ _ _ _ _ _ c.replay.ensures (c.loop.invariant.1 kept keeps e))

pub loop-preserved : goal.loop-preserved
loop-preserved g c =
    (search of_calls, λ kept keeps e. keeps _ _ _ _ _ _ _ c.replay.ensures (c.loop.invariant.1 kept keeps e))

pub returns : goal.returns
returns g c kept keeps e = elim c.loop-test.branch [
  | else-loop-test w ↦ (
    c.loop-test.replay,
    ap (λ f. kept f c.loop-test.input c.loop-test.output) w.replay-is
        ∙ ap (λ x. kept c.loop.replay x c.loop-test.output) w.input-is
        ∙ ap (λ y. kept c.loop.replay c.loop.input y) w.output-is
        ∙ c.loop.invariant.1 kept keeps e,
  )
  | then-loop-test+in_ok-replay+then-not-branch w ↦ (
    c.loop-test.replay,
    ap (λ f. kept f c.loop-test.input c.loop-test.output) w.replay-is
        ∙ ap (λ x. kept w.replay.new.self x c.loop-test.output) w.input-is
        ∙ ap (λ y. kept w.replay.new.self w.replay.new.arg2 y) w.output-is
        ∙ keeps _ _ _ _ _ _ _ w.replay.ensures (c.loop.invariant.1 kept keeps e),
  )
]
