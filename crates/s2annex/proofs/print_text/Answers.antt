use Rattle.std.proofs.Common.{sym, ap, subst, ◌∙◌, take}
use Rattle.std.proofs.Math.Seq.{take_at}
use Rattle.std.proofs.lemmas.Result.{on_ok_weaker}
use Rattle.std.specs.Io.KnownBytes.{Appends}
use Rattle.annex_text.specs.Text.{annex_text, annex_read}
use Rattle.scene_read.specs.Input.{WritesText}
use Rattle.s2annex.proofs.print_text.Goals as goal

-- the front of the page is what is printed of the text that is read
pub returns : goal.returns
unfolding annex_text
returns g c =
    let old = g.W.Write.contents c.args.output.now in
    let new = g.W.Write.contents c.write_all.new.self in
    let n = c.print-len.result in
    let read = c.in_ok-s.ensures.ok in
    let printed = c.print-len.ensures in
    let front = ap (take n) printed.bytes ∙ take_at _ _ n (sym printed.long) ∙ ap annex_read read.2 in
    let whole : Appends old new (take n c.print-len.new.out) → WritesText annex_text (g.R.Read.remaining c.args.input.now) old new =
    λ appends. (read.0, read.1, subst (λ text. Appends old new text) front appends) in
    on_ok_weaker c.write_all.result whole c.write_all.ensures.bytes
