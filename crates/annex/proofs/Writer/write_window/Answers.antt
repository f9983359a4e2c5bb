-- `write_window` meets its contract: each arm is the region that the window's code names.
use Rattle.std.proofs.Common.{◌≡◌, ◌+◌, ◌-◌, ◌*◌, ◌/◌, List, Option, false, get_or, ap, subst, ◌∙◌, arith}
use Rattle.annex.proofs.Across.{granted_at, image_region_lem, data_region_lem, super_region_lem, device_region_lem}
use Rattle.annex.proofs.Across.{across_one, across_same}
use Rattle.annex.specs.Onward.{Onward}
use Rattle.annex.specs.Writing.{piece_before}
use Rattle.layout.specs.Size.{page, block}
use Rattle.perm.specs.Perm.{perm_code}
use Rattle.perm.specs.declared.Perm.TheVariants.{Rw, Rx}
use Rattle.reach.specs.declared.Reach.{Reach}
use Rattle.runs.specs.declared.Run.{Run}
use Rattle.window_reach.specs.Granted.{region, device_region, by_entry, granted_in}
use Rattle.annex.proofs.Writer.write_window.Goals as goal

pub returns-in-1-clause-across : goal.returns-in-1-clause-across
returns-in-1-clause-across c =
    let a = c.args in
    let w = a.w in
    let s = c.requires.sited in
    let code = c.in-1.is in
    let r = region w block (λ p. perm_code Rx) false in
    let is = image_region_lem a.maps.base.now a.maps.sup.now a.exempt w code in
    across_one a.self.now c.write_piece.new.self w.ipa w.span _ w.pa false (perm_code Rx)
    (s.some (λ e. omega (arith, code, e)) (λ e. omega (arith, code, e)))
    (λ i. ap (λ v. granted_in v (w.ipa + i)) is ∙ granted_at r i)
    (subst (λ (o : Option Reach). (rs : List Run) → Onward a.self.now (piece_before w.ipa (w.ipa + (w.span - 1)) o rs) c.write_piece.new.self rs)
    c.by_perm.ensures c.write_piece.ensures.onward)

pub returns-in-2-clause-across : goal.returns-in-2-clause-across
returns-in-2-clause-across c =
    let a = c.args in
    let w = a.w in
    let base = a.maps.base.now in
    let is = data_region_lem base a.maps.sup.now a.exempt w c.in-2.is in
    let whole : w.span / page * page ≡ w.span = omega (arith, c.requires.sited.pages c.in-2.is) in
    across_same a.self.now c.write_pieces.new.self w.ipa w.span _ (w.span / page * page)
    (λ i. by_entry (w.pa + i) false (get_or base (i / page) 0))
    whole
    (λ i. ap (λ v. granted_in v (w.ipa + i)) is ∙ granted_at (region w page (λ p. get_or base p 0) false) i)
    c.write_pieces.ensures.across

pub returns-in-3-clause-across : goal.returns-in-3-clause-across
returns-in-3-clause-across c =
    let a = c.args in
    let w = a.w in
    let sup = a.maps.sup.now in
    let code = c.in-3.is in
    let is = super_region_lem a.maps.base.now sup a.exempt w code in
    let s = c.requires.sited in
    let whole : w.span / block * block ≡ w.span = omega (arith, s.blocks (λ e. omega (arith, code, e))) in
    across_same a.self.now c.write_pieces-in-3.new.self w.ipa w.span _ (w.span / block * block)
    (λ i. by_entry (w.pa + i) a.exempt (get_or sup (i / block) 0))
    whole
    (λ i. ap (λ v. granted_in v (w.ipa + i)) is ∙ granted_at (region w block (λ p. get_or sup p 0) a.exempt) i)
    c.write_pieces-in-3.ensures.across

pub returns-in_default-clause-across : goal.returns-in_default-clause-across
returns-in_default-clause-across c =
    let a = c.args in
    let w = a.w in
    let not-image : w.code ≡ 1 → ⊥ = λ e. omega (arith, e) in
    let not-data : w.code ≡ 2 → ⊥ = λ e. omega (arith, e) in
    let not-super : w.code ≡ 3 → ⊥ = λ e. omega (arith, e) in
    let is = device_region_lem a.maps.base.now a.maps.sup.now a.exempt w not-image not-data not-super in
    across_one a.self.now c.write_piece-in_default.new.self w.ipa w.span _ w.pa false (perm_code Rw)
    (c.requires.sited.some not-data not-super)
    (λ i. ap (λ v. granted_in v (w.ipa + i)) is ∙ granted_at (device_region w) i)
    (subst (λ (o : Option Reach). (rs : List Run) → Onward a.self.now (piece_before w.ipa (w.ipa + (w.span - 1)) o rs) c.write_piece-in_default.new.self rs)
    c.by_perm-in_default.ensures c.write_piece-in_default.ensures.onward)
