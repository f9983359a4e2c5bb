-- What edges grant: the entries of the filling, by the last edge into each frame; and where a refused filling stops.
use Rattle.std.specs.Prelude.{ℕ, ◌≤◌, List, ◌∷◌, ◌++◌, ◌⊎◌, ◌≡◌, get_or}
use Rattle.edge.specs.declared.Edge.{Edge}
use Rattle.exact.specs.Exact.{exact_rows}
use Rattle.expected.specs.Expected.{expected}
use Rattle.filling.specs.Filling.{map_of, placed, placed_all, conflicts, cleared_maps, filled_into, filled}
use Rattle.layout.specs.Size.{entries as mapEntries}
use Rattle.p2m.specs.declared.Span.{Span}
use Rattle.refusal.specs.Table.{Row, accepted, refused, first}

-- accepted: an entry is what the last edge into its frame gives, and no edge gives a frame past the map any
abbrev pub Entries : Type 0
Entries =
    (frames : List (List ℕ)) (dom : ℕ) (edges : List Edge) (n m : ℕ) →
    (filled_into frames dom edges n m).outcome ≡ accepted →
    (s : Span) (p : ℕ) → get_or (map_of s (filled_into frames dom edges n m)) p 0 ≡ expected frames dom s edges p

-- accepted fillings of the same edges at any map lengths agree entry by entry, with 0 past the end
abbrev pub SameEntries : Type 0
SameEntries =
    (frames : List (List ℕ)) (dom : ℕ) (edges : List Edge) (n m n' m' : ℕ) →
    (filled_into frames dom edges n m).outcome ≡ accepted →
    (filled_into frames dom edges n' m').outcome ≡ accepted →
    (s : Span) (p : ℕ) →
    get_or (map_of s (filled_into frames dom edges n m)) p 0 ≡ get_or (map_of s (filled_into frames dom edges n' m')) p 0

-- what is accepted into maps is accepted into longer ones
abbrev pub LongerAccepts : Type 0
LongerAccepts =
    (frames : List (List ℕ)) (dom : ℕ) (edges : List Edge) (n m n' m' : ℕ) →
    n ≤ n' →
    m ≤ m' →
    (filled_into frames dom edges n m).outcome ≡ accepted → (filled_into frames dom edges n' m').outcome ≡ accepted

-- where lent maps, of at most 512, were filled, maps of 512 can be, with the same entries
pub record FilledWhole (frames : List (List ℕ)) (dom : ℕ) (edges : List Edge) (base sup : List ℕ) : Type 0 where
  pub whole : (filled_into frames dom edges mapEntries mapEntries).outcome ≡ accepted
  pub same :
      (s : Span) (p : ℕ) →
      get_or (map_of s (filled frames dom edges base sup)) p 0
      ≡ get_or (map_of s (filled_into frames dom edges mapEntries mapEntries)) p 0

abbrev pub FillsWhole : Type 0
FillsWhole =
    (frames : List (List ℕ)) (dom : ℕ) (edges : List Edge) (base sup : List ℕ) →
    (filled frames dom edges base sup).outcome ≡ accepted → FilledWhole frames dom edges base sup

-- lent maps that the filling accepted pass `check_exact`, for both spans
abbrev pub FilledExact : Type 0
FilledExact =
    (frames : List (List ℕ)) (dom : ℕ) (edges : List Edge) (base sup : List ℕ) →
    (filled frames dom edges base sup).outcome ≡ accepted →
    (s : Span) → first (exact_rows frames dom s edges (map_of s (filled frames dom edges base sup))) ≡ accepted

-- on 15 or 16 the maps hold the edges before the failing one
pub record Stopped (frames : List (List ℕ)) (dom : ℕ) (edges : List Edge) (n m : ℕ) (r : Row) : Type 0 where
  pub before : List Edge
  pub failing : Edge
  pub rest : List Edge
  pub split : edges ≡ before ++ failing ∷ rest
  pub placed_before : (placed_all frames dom before (cleared_maps n m)).outcome ≡ accepted
  pub fails : (placed frames dom (placed_all frames dom before (cleared_maps n m)) failing).outcome ≡ refused r
  pub held : (s : Span) → map_of s (filled_into frames dom edges n m) ≡ map_of s (placed_all frames dom before (cleared_maps n m))

-- on 17 all edges
pub record Conflicting (frames : List (List ℕ)) (dom : ℕ) (edges : List Edge) (n m : ℕ) (r : Row) : Type 0 where
  pub placed_whole : (placed_all frames dom edges (cleared_maps n m)).outcome ≡ accepted
  pub conflict : (conflicts (placed_all frames dom edges (cleared_maps n m))).outcome ≡ refused r
  pub held : (s : Span) → map_of s (filled_into frames dom edges n m) ≡ map_of s (placed_all frames dom edges (cleared_maps n m))

abbrev pub RefusedHolds : Type 0
RefusedHolds =
    (frames : List (List ℕ)) (dom : ℕ) (edges : List Edge) (n m : ℕ) (r : Row) →
    (filled_into frames dom edges n m).outcome ≡ refused r →
    Stopped frames dom edges n m r ⊎ Conflicting frames dom edges n m r
