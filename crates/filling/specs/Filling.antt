-- Filling, by document 01 ("Leaf maps"): what edges leave in both maps, and rows 15 and 16 of its table, with 17 last.
use Rattle.std.specs.Prelude.{Option, Some, None}
use Rattle.std.specs.Prelude.{ℕ, List, [], ◌∷◌, ltb, length, set, replicate}
use Rattle.std.specs.List.{fold}
use Rattle.conflict.specs.Conflict.{row17}
use Rattle.edge.specs.Edge.{entry_of, counts}
use Rattle.edge.specs.declared.Edge.{Edge}
use Rattle.fields.specs.Named.{pick}
use Rattle.p2m.specs.Frame.{kind_at, span_of_kind}
use Rattle.p2m.specs.declared.Span.{Span}
use Rattle.p2m.specs.declared.Span.TheVariants.{Base, Super}
use Rattle.refusal.specs.Table.{Row, row, Outcome, accepted, refused, first, each_from}
use Rattle.rows.specs.Rows.{length_rows}

-- both maps, and whether a row has refused
pub record Filling : Type 0 where
  pub base : List ℕ
  pub sup : List ℕ
  pub outcome : Outcome

abbrev pub filling : List ℕ → List ℕ → Outcome → Filling
filling b s o = record { base = b; sup = s; outcome = o }

abbrev pub map_of : Span → Filling → List ℕ
map_of Base f = f.base
map_of Super f = f.sup

-- one map, and whether a row has refused
pub record Put : Type 0 where
  pub map : List ℕ
  pub outcome : Outcome

abbrev pub put : List ℕ → Outcome → Put
put xs o = record { map = xs; outcome = o }

-- row 15: a parent whose leaves have no span here; row 16: a child past a map
abbrev pub row15 : ℕ → Row
row15 parent = row 15 (parent ∷ [])

abbrev pub row16 : ℕ → List ℕ → Row
row16 child xs = row 16 (child ∷ length xs ∷ [])

-- a later edge overwrites; a child past that map is 16
unfoldable pub put_in : List ℕ → Edge → Put
put_in xs e =
    pick (ltb e.child (length xs))
    (put (set xs e.child (entry_of e)) accepted)
    (put xs (refused (row16 e.child xs)))

abbrev pub in_map : Span → Put → Filling → Filling
in_map Base p f = filling p.map f.sup p.outcome
in_map Super p f = filling f.base p.map p.outcome

-- parent kind 2 is base, 3 is super, else 15
abbrev pub put_under : Option Span → Filling → Edge → Filling
put_under (Some s) f e = in_map s (put_in (map_of s f) e) f
put_under None f e = filling f.base f.sup (refused (row15 e.parent))

-- one edge: skipped, or put under its parent's span
unfoldable pub placed : List (List ℕ) → ℕ → Filling → Edge → Filling
placed frames dom f e = pick (counts frames dom e) (put_under (span_of_kind (kind_at frames e.parent)) f e) f

abbrev pub unless : Outcome → Filling → Filling → Filling
unless accepted f g = f
unless (refused r) f g = g

-- the next step, unless a row has refused
unfoldable pub onward : (Filling → Filling) → Filling → Filling
onward step f = unless f.outcome (step f) f

-- one edge more
abbrev pub placed_next : List (List ℕ) → ℕ → Filling → Edge → Filling
placed_next frames dom f e = onward (λ h. placed frames dom h e) f

-- the edges in order, up to the first that is refused
unfoldable pub placed_all : List (List ℕ) → ℕ → List Edge → Filling → Filling
placed_all frames dom edges f = fold (placed_next frames dom) f edges

-- 17 is tested last, smallest first
unfoldable pub conflicts : Filling → Filling
conflicts f = filling f.base f.sup (first (each_from (row17 f.sup) 0 f.base))

abbrev pub cleared_maps : ℕ → ℕ → Filling
cleared_maps n m = filling (replicate n 0) (replicate m 0) accepted

-- lent maps: row 2 comes first and changes nothing; else both are cleared
unfoldable pub started : List ℕ → List ℕ → Filling
started base sup =
    onward (λ f. cleared_maps (length base) (length sup)) (filling base sup (first (length_rows base sup)))

-- of lent maps: started, the edges in order, and 17 last
unfoldable pub filled : List (List ℕ) → ℕ → List Edge → List ℕ → List ℕ → Filling
filled frames dom edges base sup = onward conflicts (placed_all frames dom edges (started base sup))

-- the same from cleared maps of these lengths
unfoldable pub filled_into : List (List ℕ) → ℕ → List Edge → ℕ → ℕ → Filling
filled_into frames dom edges n m = onward conflicts (placed_all frames dom edges (cleared_maps n m))
