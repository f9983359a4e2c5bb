-- `put_page` meets its contract: counted first, the page is written where it fits.
use Rattle.std.proofs.Common.{◌≡◌, ◌≤◌, length, sym, ap, ◌∙◌, arith}
use Rattle.annex.proofs.Rows.{too_long, fits}
use Rattle.annex.proofs.Writing.{all_long, all_bytes}
use Rattle.annex.specs.Annex.{annex_page, annex_left}
use Rattle.refusal.specs.Told.{told, after}
use Rattle.annex.proofs.put_page.Goals as goal
use Rattle.annex.proofs.put_page.Goals.{After-write-len}

-- what the pass that writes nothing counts
counts : (c : After-write-len) → c.write-len.result ≡ length (annex_page c.args.l c.args.maps.base.now c.args.maps.sup.now)
counts c = all_long (annex_page c.args.l c.args.maps.base.now c.args.maps.sup.now) _ c.write-len.ensures

pub returns-then-page-len : goal.returns-then-page-len
returns-then-page-len c =
    let a = c.args in
    let old = a.page.now in
    let text = annex_page a.l a.maps.base.now a.maps.sup.now in
    let refuses = too_long a.l a.maps.base.now a.maps.sup.now old c.requires (omega (arith, counts (goal.at.returns-then-page-len c).After-write-len)) in
    record {
      tells = sym (ap (λ o. after o (length text)) refuses);
      buffer = sym (ap (λ o. annex_left o text old) refuses);
    }

pub returns : goal.returns
returns c =
    let a = c.args in
    let old = a.page.now in
    let text = annex_page a.l a.maps.base.now a.maps.sup.now in
    let count = counts (goal.at.returns c).After-write-len in
    let enough : length text ≤ length old = omega (arith, count) in
    let accepts = fits a.l a.maps.base.now a.maps.sup.now old c.requires enough in
    record {
      tells = ap told count ∙ sym (ap (λ o. after o (length text)) accepts);
      buffer = all_bytes text old c.write.ensures enough ∙ sym (ap (λ o. annex_left o text old) accepts);
    }
