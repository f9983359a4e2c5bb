-- `level3` meets its contract: a page, or none.
use Prim.Native.Nat.{ℕ}
use mathlib.Core.Path.{◌∙◌, sym, ap}
use Rattle.decode.proofs.Fields.{has_type, not_type}
use Rattle.manual.specs.Translation.{leaf, level3}
use Rattle.judge_translation.specs.Answer.{access_numbered}
use Rattle.judge_translation.proofs.Outputs.{page_output}
use Rattle.judge_translation.proofs.level3.Goals as goal

pub returns-then-d-ne-PAGE : goal.returns-then-d-ne-PAGE
unfolding level3
returns-then-d-ne-PAGE c = rw (sym c.lookup-d.ensures, not_type _ _ c.if-d-ne-PAGE.true)

pub returns : goal.returns
unfolding level3
returns c =
    let d = c.lookup-d.result in
    let a = c.args in
    c.leaf.ensures
    ∙ ap (λ (output : ℕ). leaf a.xnx (access_numbered a.access) output d) (page_output d a.ipa)
    ∙ rw (sym c.lookup-d.ensures, has_type d 3 c.if-d-ne-PAGE.false)
