-- `put_supers` meets its contract: a word for each entry, and past the map or past sup_frames there is none.
use Rattle.std.proofs.Common.{inl, inr, rules, arith, length, get_or}
use Rattle.std.proofs.lemmas.Bool.{cases_eq}
use Rattle.std.proofs.lemmas.List.{get_or_past}
use Rattle.arena.proofs.Over.{over_run}
use Rattle.arena.proofs.Runs.{resized}
use Rattle.arena.specs.Encoded.{super_at}
use Rattle.layout.specs.Window.{l2_slot}
use Rattle.encode.proofs.put_supers.Goals as goal

pub returns : goal.returns
returns c =
    let l = c.args.l in
    let sup = c.args.sup.now in
    let super = super_at l.sup_pa_base l.sup_wx_exempt sup in
    over_run _ _ _ _
    (resized 5 (l2_slot l.sup_ipa_base) (length sup) l.sup_frames super (λ p past fits. rw (get_or_past sup p 0 past))
    (λ p past fits.
    elim (cases_eq (get_or sup p 0) 0) [
      | inl e ↦ rw e
      | inr some ↦ let h = c.requires.backed p fits some in absurd (omega (arith, past, h))
    ]))
    (rw c.l2_index-from.ensures at (c.put_run.ensures super (λ m w p. search rules)))
