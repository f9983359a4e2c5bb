-- `put` meets its contract: the buffer holds the text up to i.
use Prim.Native.Nat.{◌+◌, ◌-◌}
use mathlib.Core.Path.{◌≡◌, sym, ap, ◌∙◌}
use native.Mathlib.Numerals.{add-one}
use native.Mathlib.Omega.{arith}
use lib.ListN.{length, set, get_or, length-set}
use lib.Seq.{paste, paste-suc}
use Rattle.text.proofs.Front.{no_room, room}
use Rattle.text.proofs.put.Goals as goal

pub returns-then-out-at : goal.returns-then-out-at
returns-then-out-at c = sym (no_room _ _ _ (omega arith))

pub returns-then-out-at-2 : goal.returns-then-out-at-2
returns-then-out-at-2 c = sym (no_room _ _ _ (omega arith))

pub loop-i-preserved : goal.loop-i-preserved
loop-i-preserved c =
    let a = c.args in
    let text = a.text.now in
    let stored = ap (λ xs. set xs (a.at + c.loop-i.i) (get_or text c.loop-i.i 0)) c.loop-i.invariant.2 in (
      c.loop-i.invariant.0,
      omega arith,
      rw add-one (stored ∙ paste-suc a.out.now a.at text c.loop-i.i 0 (omega (arith, c.loop-i.invariant.0)) (omega arith)),
      simp length-set c.loop-i.invariant.3,
    )

pub returns : goal.returns
returns c =
    let a = c.args in
    let all : c.loop-i.i ≡ length a.text.now = omega arith in
    c.loop-i.invariant.2
    ∙ ap (paste a.out.now a.at a.text.now) all
    ∙ sym (room a.text.now a.out.now a.at c.loop-i.invariant.0)
