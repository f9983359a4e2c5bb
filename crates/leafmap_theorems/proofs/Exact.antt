-- Maps that the filling accepted pass `check_exact`: their lengths stay, they hold codes, and their entries are the expected ones.
use Rattle.std.specs.Prelude.{Option, Some, None}
use Prim.Native.Nat.{ℕ, ◌≤◌, zero-le}
use mathlib.Core.Bool.{Bool, true, false, ◌&&◌}
use mathlib.Core.List.{List, [], ◌∷◌, flat_map}
use mathlib.Core.Path.{◌≡◌, refl, sym, ap, ◌∙◌}
use lib.Dec.{ltb, eqb, lit≤}
use lib.ListN.{length, get_or, length-set, length-replicate}
use borrow.Author.Tests.{ltb-false, le-ltb, eq-eqb}
use Rattle.edge.specs.Edge.{entry_of, counts}
use Rattle.edge.specs.declared.Edge.{Edge}
use Rattle.exact.specs.Exact.{row25, compared_rows, exact_rows}
use Rattle.expected.specs.Expected.{lands, after_edge, after_edges, expected}
use Rattle.fields.specs.Named.{pick}
use Rattle.filling.proofs.Filled.{fitting, too_long}
use Rattle.filling.specs.Filling.{Filling, filling, map_of, put_in, in_map, put_under, placed, onward, unless, placed_all, cleared_maps}
use Rattle.filling.specs.Filling.{filled_into, filled}
use Rattle.layout.specs.Size.{entries as mapEntries}
use Rattle.leafmap_theorems.specs.Entries.{FilledExact}
use Rattle.leafmap_theorems.proofs.Entries.{put_by, placed_maps, entries}
use Rattle.p2m.specs.Frame.{kind_at, span_code, span_of_kind}
use Rattle.p2m.specs.declared.Span.{Span}
use Rattle.p2m.specs.declared.Span.TheVariants.{Base, Super}
use Rattle.perm.specs.Perm.{perm_code}
use Rattle.perm.specs.declared.Perm.TheVariants.{Ro, Rw, Rx}
use Rattle.refusal.proofs.None.{none, both, test, accept, refused≢accepted, from_nowhere}
use Rattle.refusal.specs.Table.{Outcome, accepted, refused, first}
use Rattle.rows.specs.Rows.{row2, row3, length_rows, read_rows}

-- no step changes a length

kept_by :
    (s u : Span) (f : Filling) (e : Edge) (b : Bool) →
    length (map_of s (in_map u (put_by b (map_of u f) e) f)) ≡ length (map_of s f)
kept_by Base Base f e true = length-set f.base e.child (entry_of e)
kept_by Base Base f e false = refl
kept_by Base Super f e b = refl
kept_by Super Base f e b = refl
kept_by Super Super f e true = length-set f.sup e.child (entry_of e)
kept_by Super Super f e false = refl

kept_under : (s : Span) (t : Option Span) (f : Filling) (e : Edge) → length (map_of s (put_under t f e)) ≡ length (map_of s f)
unfolding put_in
kept_under s (Some u) f e = kept_by s u f e (ltb e.child (length (map_of u f)))
kept_under Base None f e = refl
kept_under Super None f e = refl

module _ (frames : List (List ℕ)) (dom : ℕ) (s : Span) where
  pub kept_one : (f : Filling) (e : Edge) → length (map_of s (placed frames dom f e)) ≡ length (map_of s f)
  unfolding placed
  kept_one f e = go (counts frames dom e)
    where
      found : Option Span
      found = span_of_kind (kind_at frames e.parent)

      go : (b : Bool) → length (map_of s (pick b (put_under found f e) f)) ≡ length (map_of s f)
      go true = kept_under s found f e
      go false = refl

  kept_next :
      (f : Filling) (e : Edge) (o : Outcome) →
      length (map_of s (unless o (placed frames dom f e) f)) ≡ length (map_of s f)
  kept_next f e accepted = kept_one f e
  kept_next f e (refused r) = refl

  pub kept : (es : List Edge) (f : Filling) → length (map_of s (placed_all frames dom es f)) ≡ length (map_of s f)
  unfolding placed_all onward
  kept [] f = refl
  kept (e ∷ es) f = kept es (unless f.outcome (placed frames dom f e) f) ∙ kept_next f e f.outcome

-- every entry is a code

code_small : (w x : Bool) → perm_code (pick w Rw (pick x Rx Ro)) ≤ 3
code_small true x = lit≤ tt
code_small false true = lit≤ tt
code_small false false = lit≤ tt

module _ (frames : List (List ℕ)) (dom : ℕ) (s : Span) (p : ℕ) where
  small_one : (entry : ℕ) (e : Edge) → entry ≤ 3 → after_edge frames dom s p entry e ≤ 3
  unfolding after_edge
  small_one entry e h = go (lands frames dom s e && eqb e.child p)
    where
      go : (b : Bool) → pick b (entry_of e) entry ≤ 3
      go true = code_small e.writable e.execute
      go false = h

  small : (entry : ℕ) (es : List Edge) → entry ≤ 3 → after_edges frames dom s p entry es ≤ 3
  unfolding after_edges
  small entry [] h = h
  small entry (e ∷ es) h = small (after_edge frames dom s p entry e) es (small_one entry e h)

-- so no row applies

no_row25 : (dom : ℕ) (wanted : ℕ → ℕ) (m entry : ℕ) → entry ≡ wanted m → row25 dom wanted m entry ≡ []
unfolding row25
no_row25 dom wanted m entry e = rw (eq-eqb _ _ e)

no_row3 : (code p byte : ℕ) → byte ≤ 3 → row3 code p byte ≡ []
unfolding row3
no_row3 code p byte h = rw (le-ltb _ _ h)

passes :
    (frames : List (List ℕ)) (dom : ℕ) (s : Span) (edges : List Edge) (xs : List ℕ) →
    length xs ≤ mapEntries →
    ((p : ℕ) → get_or xs p 0 ≡ expected frames dom s edges p) →
    first (exact_rows frames dom s edges xs) ≡ accepted
unfolding compared_rows read_rows flat_map row2
passes frames dom s edges xs short same =
    accept _
    (rw (
      le-ltb _ _ short,
      from_nowhere (row3 (span_code s)) xs 0
          (λ i h. no_row3 (span_code s) i (get_or xs i 0) (rw (same i) (small frames dom s i 0 edges zero-le))),
      from_nowhere (row25 dom (expected frames dom s edges)) xs 0
          (λ i h. no_row25 dom (expected frames dom s edges) i (get_or xs i 0) (same i)),
    ))

-- lent maps: row 2 let them by

module _ (frames : List (List ℕ)) (dom : ℕ) (edges : List Edge) (base sup : List ℕ) where
  pub fit : (filled frames dom edges base sup).outcome ≡ accepted → first (length_rows base sup) ≡ accepted
  fit a = go (first (length_rows base sup)) refl
    where
      go : (o : Outcome) → first (length_rows base sup) ≡ o → first (length_rows base sup) ≡ accepted
      go accepted e = e
      go (refused r) e =
          absurd
          (refused≢accepted r
          (sym (ap (λ (g : Filling). g.outcome) (too_long frames dom edges base sup r e) ∙ e) ∙ a))

  pub into :
      (filled frames dom edges base sup).outcome ≡ accepted →
      filled frames dom edges base sup ≡ filled_into frames dom edges (length base) (length sup)
  into a = fitting frames dom edges base sup (fit a)

  pub short : (s : Span) → first (length_rows base sup) ≡ accepted → length (map_of s (filling base sup accepted)) ≤ mapEntries
  unfolding length_rows flat_map row2
  short Base a = ltb-false _ _ (test _ _ _ (both (row2 base) _ (none _ a)).0)
  short Super a = ltb-false _ _ (test _ _ _ (both (row2 sup) _ (both (row2 base) _ (none _ a)).1).0)

  cleared_length :
      (s : Span) →
      length (map_of s (cleared_maps (length base) (length sup))) ≡ length (map_of s (filling base sup accepted))
  cleared_length Base = length-replicate (length base) 0
  cleared_length Super = length-replicate (length sup) 0

pub filled_exact : FilledExact
filled_exact frames dom edges base sup a s =
    let n = length base in
    let m = length sup in
    let same = into frames dom edges base sup a in
    let a' = sym (ap (λ (f : Filling). f.outcome) same) ∙ a in
    let long =
    ap (λ f. length (map_of s f)) same
    ∙ ap length (placed_maps frames dom edges n m s a')
    ∙ kept frames dom s edges (cleared_maps n m)
    ∙ cleared_length frames dom edges base sup s in
    passes frames dom s edges (map_of s (filled frames dom edges base sup))
    (rw long (short frames dom edges base sup s (fit frames dom edges base sup a)))
    (λ p. ap (λ f. get_or (map_of s f) p 0) same ∙ entries frames dom edges n m a' s p)
