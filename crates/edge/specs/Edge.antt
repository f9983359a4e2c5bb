-- Edges, by document 01 ("Edge and frame records", "Leaf maps").
use Rattle.std.specs.Prelude.{Option, Some, None}
use Rattle.std.specs.Prelude.{ℕ, Bool, false, ◌&&◌, List, map, ◌≡◌, eqb, get_or}
use Rattle.fields.specs.Named.{pick}
use Rattle.fields.specs.Numbers.{nonzero}
use Rattle.p2m.specs.Frame.{owner_of}
use Rattle.perm.specs.Perm.{perm_code}
use Rattle.perm.specs.declared.Perm.{Perm}
use Rattle.perm.specs.declared.Perm.TheVariants.{Ro, Rw, Rx}
use Rattle.edge.specs.declared.Edge.{Edge}

-- an edge is a record of parent, slot, child, writable, leaf, execute
abbrev pub edge_of : List ℕ → Edge
edge_of x =
    record {
      parent = get_or x 0 0;
      slot = get_or x 1 0;
      child = get_or x 2 0;
      writable = nonzero (get_or x 3 0);
      leaf = nonzero (get_or x 4 0);
      execute = nonzero (get_or x 5 0);
    }

-- edges that are lent as rows of their fields
abbrev pub edges_of : List (List ℕ) → List Edge
edges_of rows = map edge_of rows

-- what each element of another type converts to, by `Into`
abbrev pub Reads : {E : Type 0} → (E → Edge → Type 0) → (E → Edge) → Type 0
Reads converts read = (x : _) (e : Edge) → converts x e → e ≡ read x

-- writable with execute gives Rw
abbrev pub perm_of : Edge → Perm
perm_of e = pick e.writable Rw (pick e.execute Rx Ro)

-- the entry that an edge gives its child
abbrev pub entry_of : Edge → ℕ
entry_of e = perm_code (perm_of e)

abbrev pub owned_by : ℕ → Option ℕ → Bool
owned_by dom (Some owner) = eqb owner dom
owned_by dom None = false

-- the domain owns the frame
unfoldable pub owns : List (List ℕ) → ℕ → ℕ → Bool
owns frames dom m = owned_by dom (owner_of frames m)

-- non-leaf edges and edges whose parent the domain doesn't own are skipped; the others count
unfoldable pub counts : List (List ℕ) → ℕ → Edge → Bool
counts frames dom e = e.leaf && owns frames dom e.parent
