-- `print_scene` meets its contract: the page as it is written, or the line of the row.
use Rattle.std.proofs.Common.{rules}
use Rattle.annex_text.proofs.Printed.{page_printed, row_printed}
use Rattle.annex_text.specs.Text.{annex_scene}
use Rattle.refusal.specs.Outcome.{row_of}
use Rattle.annex_text.proofs.print_scene.Goals as goal

pub returns-in-Ok : goal.returns-in-Ok
unfolding annex_scene
returns-in-Ok c = page_printed _ _ _ _ (search rules) _ _ (rw c.layout_of.ensures at c.in-Ok.ensures)

pub returns-in-Err : goal.returns-in-Err
unfolding annex_scene
returns-in-Err c =
    let denied = rw c.layout_of.ensures at c.in-Err.ensures in
    let line = rw (c.refused.ensures, c.words.ensures) at c.put.ensures in
    row_printed _ _ _ _ (search rules) (row_of c.in-Err.refusal) _ denied _ _ line
