-- `put_area` meets its contract: a word where the area is present, else none.
use Rattle.areas.specs.Area.{area_slot}
use Rattle.arena.proofs.Over.{over_absent}
use Rattle.arena.specs.Encoded.{one}
use Rattle.arena.specs.Word.{table_to}
use Rattle.encode.proofs.put_area.Goals as goal

pub returns-else-a : goal.returns-else-a
returns-else-a c =
    let a = c.args.a in
    over_absent a.present (one 1 (area_slot a) (table_to a.table)) _ c.if-a.false
