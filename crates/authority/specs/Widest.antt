-- The widest entry that a frame may have in a domain's map: unmapped, Ro or Rw. Grants do not tell Rx from Ro.
use Rattle.std.specs.Prelude.{Option, Some, None}
use Rattle.std.specs.List.{fold, zip}
use Rattle.std.specs.Prelude.{ℕ, max, Bool, true, false, not, ◌&&◌, List, [], eqb, leb, get_or, set}
use Rattle.authority.specs.Authority.{reaches}
use Rattle.fields.specs.Named.{pick}
use Rattle.grant.specs.Grant.{covers}
use Rattle.grant.specs.declared.Grant.{Grant}
use Rattle.edge.specs.Edge.{owned_by}
use Rattle.p2m.specs.Frame.{owner_named, owner_of}
use Rattle.perm.specs.Perm.{perm_code, entry_named}
use Rattle.perm.specs.declared.Perm.{Perm}
use Rattle.perm.specs.declared.Perm.TheVariants.{Ro, Rw, Rx}
use Rattle.refusal.specs.Outcome.{refuse}
use Rattle.refusal.specs.Table.{Row}
use Rattle.refusal.specs.declared.Refusal.{Refusal}
use Rattle.refusal.specs.declared.Refusal.TheVariants.{UnauthorizedMapping, WriteEscalation}

-- by what may be done with the frame
abbrev pub widest : Bool → Bool → ℕ
widest reads writes = pick writes (perm_code Rw) (pick reads (perm_code Ro) 0)

-- by its owner and all grants
unfoldable pub widest_at : List (List ℕ) → List Grant → ℕ → ℕ → ℕ
widest_at frames grants dom m =
    let o = owner_of frames m in widest (reaches grants dom m false o) (reaches grants dom m true o)

-- by its row in the list of frames alone
abbrev pub own_by : ℕ → List ℕ → ℕ
own_by dom frame = pick (owned_by dom (owner_named (get_or frame 0 0))) (perm_code Rw) 0

-- by one grant alone; what nobody owns nobody can grant
abbrev pub covered : Grant → ℕ → ℕ → Bool → Option ℕ → Bool
covered g dom m writes (Some owner) = covers owner dom m writes g
covered g dom m writes None = false

unfoldable pub widest_by : List (List ℕ) → ℕ → ℕ → Grant → ℕ
widest_by frames dom m g = let o = owner_of frames m in widest (covered g dom m false o) (covered g dom m true o)

-- an entry as wide as what it asks for
abbrev pub asked : ℕ → ℕ
asked entry = pick (eqb entry (perm_code Rx)) (perm_code Ro) entry

-- whether no entry asks for more than its frame may have
abbrev pub all_within : List ℕ → List ℕ → Bool
all_within leaves most = fold (λ within p. within && leb (asked p.0) p.1) true (zip leaves most)

-- rows 23 and 24 of an entry, by the widest that its frame may have and by its owner
abbrev pub refused_by : ℕ → ℕ → ℕ → Perm → Option ℕ → Refusal
refused_by most dom m perm (Some owner) =
    pick (eqb most 0) (UnauthorizedMapping dom m (Some owner) perm) (WriteEscalation dom m owner)
refused_by most dom m perm None = UnauthorizedMapping dom m None perm

abbrev pub entry_rows : ℕ → ℕ → ℕ → ℕ → Option Perm → Option ℕ → List Row
entry_rows most dom m entry (Some perm) owner = refuse (not (leb (asked entry) most)) (refused_by most dom m perm owner)
entry_rows most dom m entry None owner = []

abbrev pub held_rows : ℕ → ℕ → ℕ → ℕ → Option ℕ → List Row
held_rows most dom m entry owner = entry_rows most dom m entry (entry_named entry) owner

-- the widest entries after a grant: a frame past them has none
abbrev pub noted : List (List ℕ) → ℕ → List ℕ → Grant → List ℕ
noted frames dom most g = set most g.frame (max (get_or most g.frame 0) (widest_by frames dom g.frame g))
