-- `level1` meets its contract: a table, a block, or neither.
use Prim.Native.Nat.{ℕ}
use mathlib.Core.Path.{◌∙◌, sym, ap}
use Rattle.decode.proofs.Fields.{has_type, not_type}
use Rattle.manual.specs.Translation.{leaf, level1}
use Rattle.judge_translation.specs.Answer.{access_numbered}
use Rattle.judge_translation.proofs.Outputs.{table_named, large_output}
use Rattle.judge_translation.proofs.level1.Goals as goal

pub returns-then-d-eq-TABLE : goal.returns-then-d-eq-TABLE
unfolding level1
returns-then-d-eq-TABLE c =
    let d = c.lookup-d.result in
    c.level2.ensures ∙ rw (table_named d, sym c.lookup-d.ensures, has_type d 3 c.if-d-eq-TABLE.true)

pub returns-then-d-ne-BLOCK : goal.returns-then-d-ne-BLOCK
unfolding level1
returns-then-d-ne-BLOCK c =
    let d = c.lookup-d.result in
    rw (sym c.lookup-d.ensures, not_type d 3 c.if-d-eq-TABLE.false, not_type d 1 c.if-d-ne-BLOCK.true)

pub returns : goal.returns
unfolding level1
returns c =
    let d = c.lookup-d.result in
    let a = c.args in
    c.leaf.ensures
    ∙ ap (λ (output : ℕ). leaf a.xnx (access_numbered a.access) output d) (large_output d a.ipa)
    ∙ rw (sym c.lookup-d.ensures, not_type d 3 c.if-d-eq-TABLE.false, has_type d 1 c.if-d-ne-BLOCK.false)
