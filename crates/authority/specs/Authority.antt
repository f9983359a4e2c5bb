-- Ownership and grants, by document 01 ("Leaf maps"): rows 23 and 24 of its table.
use Rattle.std.specs.Prelude.{Option, Some, None}
use Rattle.std.specs.Prelude.{ℕ, Bool, true, false, not, ◌&&◌, ◌||◌, List, [], ◌∷◌, ◌++◌, eqb}
use Rattle.grant.specs.Grant.{covers}
use Rattle.grant.specs.declared.Grant.{Grant}
use Rattle.p2m.specs.Frame.{owner_of}
use Rattle.perm.specs.Perm.{perm_writes, entry_named}
use Rattle.perm.specs.declared.Perm.{Perm}
use Rattle.refusal.specs.Outcome.{refuse}
use Rattle.refusal.specs.Table.{Row, each_from, all_rows}
use Rattle.refusal.specs.declared.Refusal.TheVariants.{UnauthorizedMapping, WriteEscalation}
use Rattle.rows.specs.Rows.{read_rows}

-- any one grant counts
unfoldable pub has_grant : List Grant → ℕ → ℕ → ℕ → Bool → Bool
has_grant [] owner dom m writes = false
has_grant (g ∷ gs) owner dom m writes = covers owner dom m writes g || has_grant gs owner dom m writes

-- the domain owns the frame, or its owner grants it; a frame that nobody owns is nobody's to grant
abbrev pub reaches : List Grant → ℕ → ℕ → Bool → Option ℕ → Bool
reaches grants dom m writes (Some owner) = eqb owner dom || has_grant grants owner dom m writes
reaches grants dom m writes None = false

-- row 23: a mapped frame that the domain may not reach
abbrev pub row23 : List Grant → ℕ → ℕ → Perm → Option ℕ → List Row
row23 grants dom m perm owner = refuse (not (reaches grants dom m false owner)) (UnauthorizedMapping dom m owner perm)

-- row 24: a frame mapped for writing that the domain may reach for reading alone
abbrev pub row24 : List Grant → ℕ → ℕ → Perm → Option ℕ → List Row
row24 grants dom m perm (Some owner) =
    let o = Some owner in
    refuse (perm_writes perm && reaches grants dom m false o && not (reaches grants dom m true o)) (WriteEscalation dom m owner)
row24 grants dom m perm None = []

-- an unmapped entry reaches no frame
unfoldable pub owner_rows : List Grant → ℕ → ℕ → Option Perm → Option ℕ → List Row
owner_rows grants dom m (Some perm) owner = row23 grants dom m perm owner ++ row24 grants dom m perm owner
owner_rows grants dom m None owner = []

-- an entry, by its frame; at most one of the two applies
unfoldable pub reach_rows : List (List ℕ) → List Grant → ℕ → ℕ → ℕ → List Row
reach_rows frames grants dom m entry = owner_rows grants dom m (entry_named entry) (owner_of frames m)

-- 2 and 3 first, the map's code being 1; then the lowest frame first
unfoldable pub authority_rows : List (List ℕ) → List Grant → ℕ → List ℕ → List Row
authority_rows frames grants dom map = all_rows (read_rows 1 map ∷ each_from (reach_rows frames grants dom) 0 map ∷ [])
