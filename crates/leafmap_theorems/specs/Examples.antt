-- Document 01's examples of rows 15 to 17 and 23 to 25, and its four leaf edges. Domain 3 owns the parents.
use Rattle.std.specs.Prelude.{ℕ, List, [], ◌∷◌, map, ◌≡◌, replicate}
use Rattle.authority.specs.Authority.{authority_rows}
use Rattle.edge.specs.Edge.{edges_of}
use Rattle.exact.specs.Exact.{exact_rows}
use Rattle.filling.specs.Filling.{Filling, filling, filled}
use Rattle.grant.specs.Grant.{grant_of}
use Rattle.p2m.specs.declared.Span.{Span}
use Rattle.p2m.specs.declared.Span.TheVariants.{Base, Super}
use Rattle.refusal.specs.Table.{row, Outcome, accepted, refused, first}

-- frames: 0 is domain 7's, 1 owned by nobody; 2, 3 and 4 are page tables of domain 3, by their kinds
abbrev pub frames : List (List ℕ)
frames = (7 ∷ 1 ∷ []) ∷ (65536 ∷ 1 ∷ []) ∷ (3 ∷ 2 ∷ []) ∷ (3 ∷ 3 ∷ []) ∷ (3 ∷ 4 ∷ []) ∷ []

-- an edge of a parent, slot and child: writable, leaf, execute
abbrev pub edge : ℕ → ℕ → ℕ → ℕ → ℕ → ℕ → List ℕ
edge parent slot child w leaf x = parent ∷ slot ∷ child ∷ w ∷ leaf ∷ x ∷ []

abbrev pub plain : ℕ → ℕ → List ℕ
plain parent child = edge parent 0 child 0 1 0

abbrev pub fill : List (List ℕ) → List ℕ → List ℕ → Filling
fill edges base sup = filled frames 3 (edges_of edges) base sup

abbrev pub authorize : List (List ℕ) → List ℕ → Outcome
authorize grants leaves = first (authority_rows frames (map grant_of grants) 3 leaves)

abbrev pub exact : Span → List (List ℕ) → List ℕ → Outcome
exact s edges leaves = first (exact_rows frames 3 s (edges_of edges) leaves)

-- four leaf edges: W, W+X, X, plain
abbrev pub FourEdges : Type 0
FourEdges =
    fill (edge 2 0 0 1 1 0 ∷ edge 2 1 1 1 1 1 ∷ edge 2 2 2 0 1 1 ∷ plain 2 3 ∷ []) (9 ∷ 9 ∷ 9 ∷ 9 ∷ 9 ∷ []) (9 ∷ [])
    ≡ filling (2 ∷ 2 ∷ 3 ∷ 1 ∷ 0 ∷ []) (0 ∷ []) accepted

pub record LeafExamples : Type 0 where
  pub four_edges : FourEdges
  -- a map of 513 is refused before anything is cleared
  pub row2 : fill [] (9 ∷ []) (replicate 513 9) ≡ filling (9 ∷ []) (replicate 513 9) (refused (row 2 []))
  -- a map that is filled may hold any bytes
  pub no_row3 : fill [] (4 ∷ 255 ∷ []) [] ≡ filling (0 ∷ 0 ∷ []) [] accepted
  -- the maps hold the edges before the failing one
  pub row15 :
      fill (plain 2 0 ∷ plain 4 1 ∷ plain 2 2 ∷ []) (9 ∷ 9 ∷ 9 ∷ []) (9 ∷ [])
      ≡ filling (1 ∷ 0 ∷ 0 ∷ []) (0 ∷ []) (refused (row 15 (4 ∷ [])))
  pub row16 :
      fill (plain 2 512 ∷ []) (replicate 512 0) [] ≡ filling (replicate 512 0) [] (refused (row 16 (512 ∷ 512 ∷ [])))
  pub row17 :
      fill (plain 2 1 ∷ plain 3 1 ∷ []) (0 ∷ 0 ∷ []) (0 ∷ 0 ∷ [])
      ≡ filling (0 ∷ 1 ∷ []) (0 ∷ 1 ∷ []) (refused (row 17 (1 ∷ [])))
  pub smallest_first :
      fill (plain 2 1 ∷ plain 3 1 ∷ plain 2 0 ∷ plain 3 0 ∷ []) (0 ∷ 0 ∷ []) (0 ∷ 0 ∷ [])
      ≡ filling (1 ∷ 1 ∷ []) (1 ∷ 1 ∷ []) (refused (row 17 (0 ∷ [])))
  -- no leaf; parent 0 another's, 1 nobody's, 5 past the list
  pub skipped :
      fill (edge 4 0 0 1 0 0 ∷ plain 0 0 ∷ plain 1 0 ∷ plain 5 0 ∷ []) (9 ∷ []) [] ≡ filling (0 ∷ []) [] accepted
  -- a later edge overwrites, whatever its slot
  pub later : fill (edge 2 0 0 1 1 0 ∷ edge 2 9 0 0 1 0 ∷ []) (0 ∷ []) [] ≡ filling (1 ∷ []) [] accepted
  pub row23 : authorize [] (0 ∷ 1 ∷ []) ≡ refused (row 23 (3 ∷ 1 ∷ 0 ∷ 0 ∷ 1 ∷ []))
  pub row23_foreign : authorize ((7 ∷ 2 ∷ 0 ∷ 1 ∷ []) ∷ []) (3 ∷ []) ≡ refused (row 23 (3 ∷ 0 ∷ 1 ∷ 7 ∷ 3 ∷ []))
  pub row24 : authorize ((7 ∷ 3 ∷ 0 ∷ 0 ∷ []) ∷ []) (2 ∷ []) ≡ refused (row 24 (3 ∷ 0 ∷ 7 ∷ []))
  -- a grant for writing covers reading; frames 2 to 4 are the domain's own
  pub authorized : authorize ((7 ∷ 3 ∷ 0 ∷ 1 ∷ []) ∷ []) (1 ∷ 0 ∷ 2 ∷ 3 ∷ 2 ∷ []) ≡ accepted
  pub row25 : exact Base (edge 2 0 0 1 1 0 ∷ []) (0 ∷ []) ≡ refused (row 25 (3 ∷ 0 ∷ 0 ∷ 2 ∷ []))
  -- the last edge of the span counts
  pub last_edge : exact Super (plain 3 0 ∷ edge 3 0 0 1 1 0 ∷ plain 2 0 ∷ []) (2 ∷ []) ≡ accepted
  pub row3_code : exact Super [] (0 ∷ 4 ∷ []) ≡ refused (row 3 (2 ∷ 1 ∷ []))
  -- 15 comes before 17: a refused filling can leave a frame in both maps
  pub hidden_conflict :
      fill (plain 2 0 ∷ plain 3 0 ∷ plain 4 0 ∷ []) (0 ∷ []) (0 ∷ [])
      ≡ filling (1 ∷ []) (1 ∷ []) (refused (row 15 (4 ∷ [])))
  -- `check_exact` passes over an edge that the filling refuses
  pub refused_yet_exact : exact Base (plain 4 0 ∷ []) (0 ∷ []) ≡ accepted
  -- a grant says nothing of execution
  pub rx_by_reading : authorize ((7 ∷ 3 ∷ 0 ∷ 0 ∷ []) ∷ []) (3 ∷ []) ≡ accepted
