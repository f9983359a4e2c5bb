-- `lookup` meets its contract: the word is that of the tables from t on.
use Prim.Native.Nat.{◌*◌, ◌+◌, ◌-◌}
use mathlib.Core.Path.{◌≡◌, ◌∙◌, sym}
use native.Mathlib.Omega.{arith}
use borrow.Author.Tests.{eq-eqb, ne_eqb}
use Rattle.judge_translation.proofs.Fetch.{fetch_at, fetch_end}
use Rattle.descent.specs.Descent.{words_of}
use Rattle.judge_translation.specs.Answer.{elsewhere_of}
use Rattle.layout.specs.Size.{entries}
use Rattle.judge_translation.proofs.lookup.Goals as goal

pub returns-then-tables-t : goal.returns-then-tables-t
returns-then-tables-t c =
    let a = c.args in
    let outside = elsewhere_of a.places.now a.named a.index in
    let here = fetch_at (c.loop-t.t * entries) outside a.tables.now c.loop-t.t (words_of a.arena.now) a.named a.index
    (omega (arith, c.requires)) in
    c.word_at.ensures ∙ sym (c.loop-t.invariant ∙ here ∙ simp (eq-eqb _ _ c.if-tables-t.true))

pub loop-t-preserved : goal.loop-t-preserved
loop-t-preserved c =
    let a = c.args in
    let outside = elsewhere_of a.places.now a.named a.index in
    let here = fetch_at (c.loop-t.t * entries) outside a.tables.now c.loop-t.t (words_of a.arena.now) a.named a.index
    (omega (arith, c.requires)) in
    let next : c.loop-t.t * entries + entries ≡ (c.loop-t.t + 1) * entries = omega arith in
    c.loop-t.invariant ∙ here ∙ simp (ne_eqb _ _ c.if-tables-t.false, next)

pub returns : goal.returns
returns c =
    let a = c.args in
    let outside = elsewhere_of a.places.now a.named a.index in
    c.elsewhere.ensures
    ∙ sym
    (c.loop-t.invariant
    ∙ fetch_end (c.loop-t.t * entries) outside a.tables.now c.loop-t.t (words_of a.arena.now) a.named a.index
    (omega (arith, c.requires)))
