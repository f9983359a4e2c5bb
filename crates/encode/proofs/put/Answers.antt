-- `put` meets its contract: one store, or none.
use Prim.Native.Nat.{◌+◌, ◌-◌, ◌*◌, ◌<◌}
use native.Mathlib.Omega.{arith}
use lib.ListN.{length}
use Rattle.arena.proofs.Over.{over_one, over_zero}
use Rattle.layout.specs.Size.{entries}
use Rattle.encode.proofs.put.Goals as goal

pub returns-then-word-ne0 : goal.returns-then-word-ne0
returns-then-word-ne0 c =
    let a = c.args in
    let fits = c.requires.index_lt_entries c.if-word-ne0.true in
    let within : (a.table - 1) * entries + a.index < length a.arena.now = omega (arith, fits) in
    over_one a.table a.index a.word a.arena.now c.requires.table_nonzero fits within c.if-word-ne0.true

pub returns-else-word-ne0 : goal.returns-else-word-ne0
returns-else-word-ne0 c = let a = c.args in over_zero a.table a.index a.word a.arena.now c.if-word-ne0.false
