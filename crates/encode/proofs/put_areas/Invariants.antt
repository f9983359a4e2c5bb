-- `put_areas` meets its contract: the words of the areas so far are stored.
use Rattle.std.proofs.Common.{take, map}
use Rattle.arena.specs.Encoded.{stored, area_run}
use Rattle.arena.specs.Over.{Over}
use Rattle.encode.proofs.put_areas.Given as goal

abbrev pub invariant-loop-a : goal.invariant-loop-a
invariant-loop-a l = Over (stored (map area_run (take l.a-index l.a-items))) l.initial.arena l.arena
