-- The entries that edges give, by document 01 ("Leaf maps"): the last matching edge of the given span.
use Rattle.std.specs.Prelude.{Option, Some, None}
use Rattle.std.specs.Prelude.{ℕ, Bool, false, ◌&&◌, List, eqb, set}
use Rattle.std.specs.List.{fold}
use Rattle.edge.specs.Edge.{entry_of, counts}
use Rattle.edge.specs.declared.Edge.{Edge}
use Rattle.fields.specs.Named.{pick}
use Rattle.p2m.specs.Frame.{kind_at, span_code, span_of_kind}
use Rattle.p2m.specs.declared.Span.{Span}

abbrev pub is_span : Span → Option Span → Bool
is_span s (Some t) = eqb (span_code t) (span_code s)
is_span s None = false

-- the edge gives its child an entry in the map of this span
unfoldable pub lands : List (List ℕ) → ℕ → Span → Edge → Bool
lands frames dom s e = counts frames dom e && is_span s (span_of_kind (kind_at frames e.parent))

-- all entries after an edge: a child past them is no entry's
abbrev pub noted : List (List ℕ) → ℕ → Span → List ℕ → Edge → List ℕ
noted frames dom s xs e = pick (lands frames dom s e) (set xs e.child (entry_of e)) xs

-- the entry of frame m after an edge, and after all, where this one stood: the last matching edge decides
unfoldable pub after_edge : List (List ℕ) → ℕ → Span → ℕ → ℕ → Edge → ℕ
after_edge frames dom s m entry e = pick (lands frames dom s e && eqb e.child m) (entry_of e) entry

unfoldable pub after_edges : List (List ℕ) → ℕ → Span → ℕ → ℕ → List Edge → ℕ
after_edges frames dom s m entry edges = fold (after_edge frames dom s m) entry edges

-- unmapped where no edge matches
abbrev pub expected : List (List ℕ) → ℕ → Span → List Edge → ℕ → ℕ
expected frames dom s edges m = after_edges frames dom s m 0 edges
