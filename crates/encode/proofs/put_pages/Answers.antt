-- `put_pages` meets its contract: a word for each entry, and past the map there is none.
use Rattle.std.proofs.Common.{rules, arith, length}
use Rattle.std.proofs.lemmas.List.{get_or_past}
use Rattle.arena.proofs.Over.{over_run}
use Rattle.arena.proofs.Runs.{resized}
use Rattle.arena.specs.Encoded.{page_at}
use Rattle.layout.specs.Size.{entries}
use Rattle.encode.proofs.put_pages.Goals as goal

pub returns : goal.returns
returns c =
    let base = c.args.base.now in
    let page = page_at c.args.l.data_pa_base base in
    over_run _ _ _ _
    (resized 4 0 (length base) entries page (λ p past fits. rw (get_or_past base p 0 past))
    (λ p past fits. absurd (omega (arith, c.requires, past, fits))))
    (c.put_run.ensures page (λ m w p. search rules))
