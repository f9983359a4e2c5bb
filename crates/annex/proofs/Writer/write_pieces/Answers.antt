-- `write_pieces` meets its contract: the pieces before p are gone through.
use Rattle.std.proofs.Common.{◌≡◌, ℕ, ◌+◌, ◌-◌, ◌*◌, ◌/◌, ◌<◌, List, Option, Some, None, length, get_or, min, suc, rules, arith, add-one, ap, sym, ◌∙◌, length-take}
use Rattle.std.proofs.Math.Nat.{suc-mul}
use Rattle.std.proofs.lemmas.Grind.{common_steps}
use Rattle.annex.proofs.Pieces.{on_from, next_piece, by_named, by_unnamed, past_map, from_first, from_last}
use Rattle.annex.proofs.Writing.{with_runs}
use Rattle.annex.specs.Writing.{piece_before}
use Rattle.reach.specs.declared.Reach.{Reach}
use Rattle.runs.specs.declared.Run.{Run}
use Rattle.window_reach.specs.Granted.{by_entry}
use Rattle.perm.specs.Perm.{entry_named}
use Rattle.annex.proofs.Writer.write_pieces.Goals as goal
use Rattle.annex.proofs.Writer.write_pieces.Goals.{After-entry_named, in-Some, in_default}

-- what is to come from piece p on is the piece, by its byte, and what is to come after it
comes : (c : After-entry_named) →
    let a = c.args in
    let count = a.w.span / a.size in
    let p = c.loop-p.p in
    let x = a.w.ipa + p * a.size in
    (f : ℕ → Option Reach) (n : ℕ) →
    ((i : ℕ) → i < count * a.size → f (a.w.ipa + i) ≡ by_entry (a.w.pa + i) a.exempt (get_or a.map.now (i / a.size) 0)) →
    on_from f a.w.ipa count a.size n p
    ≡ piece_before x (x + (a.size - 1)) (by_entry (a.w.pa + p * a.size) a.exempt (get_or a.map.now p 0)) (on_from f a.w.ipa count a.size n (suc p))
comes c f n grants =
    let a = c.args in
    let few : c.loop-p.p < a.w.span / a.size = omega (arith, length-take c.min-count.result a.map.now) in
    next_piece f a.w.ipa (a.w.span / a.size) a.size n a.w.pa a.exempt (λ k. get_or a.map.now k 0) (omega (arith, c.requires.page_size_le_size)) grants c.loop-p.p few

byte : (c : After-entry_named) → c.entry_named.result ≡ entry_named (get_or c.args.map.now c.loop-p.p 0)
byte c = grind (arith, common_steps)

pub loop-p-preserved : goal.loop-p-preserved
loop-p-preserved c =
    let a = c.args in
    let p = c.loop-p.p in
    let x = a.w.ipa + p * a.size in
    let entry = get_or a.map.now p 0 in
    let at = (goal.at.loop-p-preserved c).After-entry_named in
    let rest : (ℕ → Option Reach) → ℕ → List Run = λ f n. on_from f a.w.ipa (a.w.span / a.size) a.size n (suc p) in
    rw add-one (elim c.match-entry_named.branch [
      | in-Some came ↦
          let wrote = came.write_piece.ensures in
          let is : by_entry (a.w.pa + p * a.size) a.exempt entry ≡ Some came.by_perm-reach.result =
          by_named (a.w.pa + p * a.size) a.exempt entry came.in-Some.perm (sym (byte at) ∙ came.in-Some.is) ∙ sym came.by_perm-reach.ensures in
          rw came.self-is record {
            same_page = wrote.same_page ∙ c.loop-p.invariant.same_page;
            few = omega (arith, wrote.few_after, suc-mul p a.size);
            onward = λ f n grants text old w.
                wrote.onward (rest f n) text old
                (with_runs c.loop-p.self.begun
                (comes at f n grants ∙ ap (λ r. piece_before x (x + (a.size - 1)) r (rest f n)) is)
                (c.loop-p.invariant.onward f n grants text old w));
          }
      | in_default came ↦
          let none : entry_named entry ≡ None = sym (byte at) ∙ search rules in
          let is = by_unnamed (a.w.pa + p * a.size) a.exempt entry none in
          rw came.self-is record {
            same_page = c.loop-p.invariant.same_page;
            few = omega (arith, c.loop-p.invariant.few, suc-mul p a.size);
            onward = λ f n grants text old w.
                with_runs c.loop-p.self.begun
                (comes at f n grants ∙ ap (λ r. piece_before x (x + (a.size - 1)) r (rest f n)) is)
                (c.loop-p.invariant.onward f n grants text old w);
          }
    ])

pub returns-clause-across : goal.returns-clause-across
returns-clause-across c =
    let a = c.args in
    let count = a.w.span / a.size in
    let all : c.loop-p.p ≡ min (length a.map.now) count = omega (arith, length-take c.min-count.result a.map.now, c.min-count.ensures) in
    λ f n grants text old w.
    let on : ℕ → List Run = on_from f a.w.ipa count a.size n in
    let some : 0 < a.size = omega (arith, c.requires.page_size_le_size) in
    let gone = c.loop-p.invariant.onward f n grants text old (with_runs a.self.now.begun (from_first f a.w.ipa count a.size n) w) in
    with_runs c.loop-p.self.begun
    (ap on all
    ∙ past_map f a.w.ipa count a.size n a.w.pa a.exempt a.map.now some grants
    ∙ from_last f a.w.ipa count a.size n)
    gone
