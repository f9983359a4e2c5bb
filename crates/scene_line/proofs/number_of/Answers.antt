use Rattle.std.proofs.Common.{arith, sym, ◌∙◌}
use Rattle.scene_line.proofs.Digits.{no_digit}
use Rattle.scene_line.proofs.number_of.Goals as goal

pub returns-in_err-n : goal.returns-in_err-n
returns-in_err-n c =
    c.from_residual.ensures ∙ sym (no_digit _ _ _ (omega arith) c.loop-c.invariant.so_far (sym c.in_err-n.ensures.value))
