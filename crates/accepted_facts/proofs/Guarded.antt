-- Where encoding or an update is let by, maps, tables and supers have the facts of rows 1 to 14.
use Prim.Native.Nat.{ℕ, ◌<◌}
use mathlib.Core.Bool.{true, false, not, ◌&&◌}
use mathlib.Core.List.{List, [], flat_map}
use mathlib.Core.Path.{◌≡◌}
use lib.Dec.{eqb, leb}
use lib.ListN.{length, get_or}
use borrow.Author.Tests.{ltb-false, leb-false, eqb-true, eqb-false, eq-eqb, ne_eqb, not-false}
use Rattle.layout.specs.Layout.{tables_of}
use Rattle.layout.specs.Size.{arena_length}
use Rattle.layout.specs.declared.Layout.{Layout}
use Rattle.layout.specs.declared.Table.{Table}
use Rattle.refusal.proofs.All.{all_always, pairs_map}
use Rattle.refusal.proofs.None.{none, accept, both, test, under, pairs_none, from_none}
use Rattle.refusal.specs.Table.{accepted, first, each_from, pairs}
use Rattle.rows.specs.Rows.{row13, row14, guard_rows, arena_guard_rows, row1, row2, row3, length_rows, map_rows, refusals_at}
use Rattle.accepted_facts.specs.Guarded.{Readable, Distinct, GuardedFacts, ArenaGuardedFacts}
use Rattle.accepted_facts.proofs.Accepted.{accepted_facts}

readable : (code : ℕ) (map : List ℕ) → row2 map ≡ [] → each_from (row3 code) 0 map ≡ [] → Readable map
unfolding row2 row3
readable code map e f =
    record {
      short = ltb-false _ _ (test _ _ _ e);
      codes = λ p h. ltb-false _ _ (test _ _ _ (from_none (row3 code) map 0 f p h));
    }

distinct : (s t : Table) → row13 s t ≡ [] → Distinct s t
unfolding row13
distinct s t e p q =
    let there : (s.present && t.present) ≡ true = rw (p, q) in
    eqb-false _ _ (test _ _ _ (under (s.present && t.present) _ there e))

backed :
    (frames : ℕ) (sup : List ℕ) → each_from (row14 frames) 0 sup ≡ [] →
    (p : ℕ) → p < length sup → (get_or sup p 0 ≡ 0 → ⊥) → p < frames
unfolding row14
backed frames sup e p h ne =
    let f : (not (eqb (get_or sup p 0) 0) && leb frames p) ≡ false = test _ _ _ (from_none (row14 frames) sup 0 e p h) in
    leb-false _ _ (rw (ne_eqb _ _ ne) at f)

pub guarded_facts : GuardedFacts
unfolding guard_rows map_rows length_rows flat_map
guarded_facts limit base sup l e =
    let maps = both (map_rows base sup) _ (none _ e) in
    let lengths = both (length_rows base sup) _ maps.0 in
    let r2 = both (row2 base) _ lengths.0 in
    let codes = both (each_from (row3 1) 0 base) _ lengths.1 in
    let valid = both (refusals_at limit l) _ maps.1 in
    let r13 = both (pairs row13 (tables_of l)) _ valid.1 in
    record {
      base_map = readable 1 base r2.0 codes.0;
      sup_map = readable 2 sup (both (row2 sup) [] r2.1).0 (both (each_from (row3 2) 0 sup) [] codes.1).0;
      layout = accepted_facts limit l (accept _ valid.0);
      distinct =
          pairs_map (λ t. Unit) _ Distinct (λ s t a b. distinct s t) (tables_of l) (all_always _ (λ t. tt) (tables_of l))
          (pairs_none row13 (tables_of l) r13.0);
      backed = backed l.sup_frames sup (both (each_from (row14 l.sup_frames) 0 sup) [] r13.1).0;
    }

module _ (limit : ℕ) (arena base sup : List ℕ) (l : Layout) where
  -- row 1, and the others

  length_let_by : first (arena_guard_rows limit arena base sup l) ≡ accepted → length arena ≡ arena_length
  unfolding arena_guard_rows row1 flat_map
  length_let_by e = eqb-true _ _ (not-false _ (test _ _ _ (both (row1 arena) _ (none _ e)).0))

  pub maps_let_by : first (arena_guard_rows limit arena base sup l) ≡ accepted → first (guard_rows limit base sup l) ≡ accepted
  unfolding arena_guard_rows flat_map
  maps_let_by e = accept _ (both (guard_rows limit base sup l) [] (both (row1 arena) _ (none _ e)).1).0

  pub arena_let_by :
      length arena ≡ arena_length →
      first (guard_rows limit base sup l) ≡ accepted → first (arena_guard_rows limit arena base sup l) ≡ accepted
  unfolding arena_guard_rows row1 flat_map
  arena_let_by e a = accept _ (rw (eq-eqb _ _ e, none _ a))

pub arena_guarded_facts : ArenaGuardedFacts
arena_guarded_facts limit arena base sup l e =
    (length_let_by limit arena base sup l e, guarded_facts limit base sup l (maps_let_by limit arena base sup l e))
