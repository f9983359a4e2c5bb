-- `widest_entries` meets its contract: the grants before `g` are noted.
use Rattle.std.proofs.Common.{◌≡◌, map, take}
use Rattle.std.specs.List.{fold}
use Rattle.authority.specs.Widest.{noted}
use Rattle.grant.specs.Grant.{grant_of}
use Rattle.authority.proofs.widest_entries.Given as goal

abbrev pub invariant-loop-g : goal.invariant-loop-g
invariant-loop-g l = l.widest ≡ fold (noted l.frames l.dom) l.initial.widest (map grant_of (take l.g-index l.grants))
