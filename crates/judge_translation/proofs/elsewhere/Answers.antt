-- `elsewhere` meets its contract: the word is that of the places from i on.
use Prim.Native.Nat.{◌+◌, ◌-◌}
use mathlib.Core.List.{[]}
use mathlib.Core.Path.{◌≡◌, ◌∙◌, sym}
use lib.ListN.{get_or, drop}
use Rattle.fields.specs.Named.{pick}
use Rattle.judge_translation.specs.Answer.{elsewhere_of}
use Rattle.judge_translation.proofs.Places.{elsewhere_at, elsewhere_end}
use Rattle.judge_translation.proofs.elsewhere.Goals as goal
use Rattle.judge_translation.proofs.elsewhere.Goals.{After-is_at}

-- the word of the places from i on, by the answer of the place there
turn :
    (v : After-is_at) →
    let a = v.args in
    elsewhere_of a.places.now a.named a.index
    ≡ pick v.is_at.result (get_or (get_or a.places.now v.loop-i.i []) 2 0)
    (elsewhere_of (drop (v.loop-i.i + 1) a.places.now) a.named a.index)
turn v =
    let a = v.args in
    v.loop-i.invariant
    ∙ elsewhere_at a.places.now v.loop-i.i a.named a.index v.loop-i-test.true
    ∙ rw (sym v.is_at.ensures)

pub returns-then-is_at : goal.returns-then-is_at
returns-then-is_at c = sym (turn (goal.at.returns-then-is_at c).After-is_at ∙ rw c.if-is_at.true)

pub loop-i-preserved : goal.loop-i-preserved
loop-i-preserved c = turn (goal.at.loop-i-preserved c).After-is_at ∙ rw c.if-is_at.false

pub returns : goal.returns
returns c =
    let a = c.args in
    sym (c.loop-i.invariant ∙ elsewhere_end a.places.now c.loop-i.i a.named a.index c.loop-i-test.false)
