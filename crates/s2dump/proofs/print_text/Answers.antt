use Rattle.std.proofs.Common.{ap, subst, ◌∙◌}
use Rattle.std.proofs.lemmas.Result.{on_ok_weaker}
use Rattle.std.specs.Io.KnownBytes.{Appends}
use Rattle.dump.specs.Dump.{dump, printed_read}
use Rattle.dump.specs.Pieces.{pieces}
use Rattle.scene_read.specs.Input.{WritesText}
use Rattle.s2dump.proofs.print_text.Goals as goal

-- the dump's pieces are those of the text that is read
pub returns : goal.returns
unfolding dump
returns g c =
    let old = g.W.Write.contents c.args.output.now in
    let new = g.W.Write.contents c.write_dump.new.output in
    let read = c.in_ok-s.ensures.ok in
    let whole : Appends old new (pieces c.of-dump.result.answer c.of-dump.result.words) → WritesText dump (g.R.Read.remaining c.args.input.now) old new =
    λ appends. (read.0, read.1, subst (λ text. Appends old new text) (c.of-dump.ensures ∙ ap printed_read read.2) appends) in
    on_ok_weaker c.write_dump.result whole c.write_dump.ensures
