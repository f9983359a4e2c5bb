-- An accepted layout has the facts of every row: where no row applies, each test is false.
use Prim.Native.Nat.{ℕ, ◌+◌, ◌%◌, ◌≤◌, ◌<◌}
use mathlib.Core.Bool.{Bool, true, false, ◌&&◌, ◌||◌, and-false}
use mathlib.Core.List.{[], ◌++◌, flat_map}
use mathlib.Core.Logic.{inl, inr}
use mathlib.Core.Path.{◌≡◌, refl, sym}
use native.Mathlib.Numerals.{lt_of_le_of_ne}
use native.Mathlib.Omega.{arith}
use lib.Dec.{ltb}
use lib.ListN.{length, get_or}
use borrow.Author.Tests.{ltb-true, ltb-false, leb-false, eqb-true, eqb-false, not-false, le-ltb}
use Rattle.layout.specs.Check.{unaligned, check, checks_of}
use Rattle.layout.specs.Layout.{tables_of}
use Rattle.layout.specs.Size.{l1_span, input_limit}
use Rattle.layout.specs.Window.{devices_of, windows_of, slot}
use Rattle.layout.specs.declared.Layout.{Layout}
use Rattle.layout.specs.declared.Table.{Table}
use Rattle.layout.specs.declared.Window.{Window}
use Rattle.refusal.proofs.All.{all_at, all_map, all_both, pairs_map}
use Rattle.refusal.proofs.None.{none, both, test, under, each_none, pairs_none}
use Rattle.refusal.specs.All.{All}
use Rattle.refusal.specs.Table.{each, pairs}
use Rattle.rows.specs.Rows.{capped, row4, row5, row6, row7, row8, row9, row10, row11, overlap, row12, pair_rows, window_rows, refusals_at}
use Rattle.accepted_facts.specs.Accepted.{Aligned, Nameable, Within, Disjoint, Apart, AcceptedFacts, NoInputOverlap}

neither : (a b : Bool) → (a || b) ≡ false → (a ≡ false) × (b ≡ false)
neither true b e = absurd (let z : ◌≡◌ {A = ℕ} 0 1 = cc in omega arith)
neither false b e = (refl, e)

-- row 9

inside : (w : Window) → w.present ≡ true → row9 w ≡ [] → (w.ipa < input_limit) × (w.ipa % l1_span + w.span ≤ l1_span)
unfolding row9
inside w p e =
    let t = neither _ _ (test _ _ _ (under w.present _ p e)) in (leb-false _ _ t.0, ltb-false _ _ t.1)

-- row 10

output : (limit : ℕ) (w : Window) → w.present ≡ true → row10 limit w ≡ [] → w.pa + w.span ≤ limit
unfolding row10
output limit w p e = ltb-false _ _ (test _ _ _ (under w.present _ p e))

-- in different slots, and each within its own, inputs do not meet
inputs :
    (v w : Window) → v.present ≡ true → w.present ≡ true → row9 v ≡ [] → row9 w ≡ [] → (slot v ≡ slot w → ⊥) →
    Disjoint v.ipa v.span w.ipa w.span
inputs v w p q e f s = go (ltb (slot v) (slot w)) refl
  where
    go : (b : Bool) → ltb (slot v) (slot w) ≡ b → Disjoint v.ipa v.span w.ipa w.span
    go true t =
        let i = inside v p e in
        let j = inside w q f in
        let k : slot v < slot w = ltb-true _ _ t in inl (omega arith)
    go false t =
        let i = inside v p e in
        let j = inside w q f in
        let k : slot w ≤ slot v = ltb-false _ _ t in
        let m : slot w < slot v = lt_of_le_of_ne k (λ x. s (sym x)) in inr (omega arith)

-- rows 11 and 12

outputs : (a alen b blen : ℕ) → overlap a alen b blen ≡ false → Disjoint a alen b blen
outputs a alen b blen e = go (ltb a (b + blen)) refl e
  where
    go : (t : Bool) → ltb a (b + blen) ≡ t → (t && ltb b (a + alen)) ≡ false → Disjoint a alen b blen
    go true h f = inl (ltb-false _ _ f)
    go false h f = inr (ltb-false _ _ h)

pair_rows_lem :
    (v w : Window) → v.present ≡ true → w.present ≡ true → pair_rows v w ≡ [] → (row11 v w ≡ []) × (row12 v w ≡ [])
unfolding pair_rows
pair_rows_lem v w p q e =
    let f : (v.present && w.present) ≡ true = rw (p, q) in
    both (row11 v w) (row12 v w) (under (v.present && w.present) (row11 v w ++ row12 v w) f e)

different : (v w : Window) → row11 v w ≡ [] → slot v ≡ slot w → ⊥
different v w e = eqb-false _ _ (test _ _ _ e)

apart : (v w : Window) → row9 v ≡ [] → row9 w ≡ [] → pair_rows v w ≡ [] → v.present ≡ true → w.present ≡ true → Apart v w
apart v w e f g p q =
    let r = pair_rows_lem v w p q g in
    let s = different v w r.0 in
    record { slots = s; inputs = inputs v w p q e f s; outputs = outputs _ _ _ _ (test _ _ _ r.1) }

pub no_input_overlap : NoInputOverlap
no_input_overlap v w p q e f g = go (inputs v w p q e f (different v w g))
  where
    go : Disjoint v.ipa v.span w.ipa w.span → overlap v.ipa v.span w.ipa w.span ≡ false
    go (inl h) = rw (le-ltb _ _ h) (and-false (ltb v.ipa (w.ipa + w.span)))
    go (inr h) = rw (le-ltb _ _ h)

-- of every window

within : (limit : ℕ) (w : Window) → (row9 w ≡ []) × (row10 limit w ≡ []) → w.present ≡ true → Within limit w
within limit w e p =
    let i = inside w p e.0 in record { below = i.0; inside = i.1; output = output limit w p e.1 }

aligned : (n unit : ℕ) → unaligned n unit ≡ false → n % unit ≡ 0
aligned n unit e = eqb-true _ _ (not-false _ e)

nameable : (limit : ℕ) (t : Table) → row7 limit t ≡ [] → t.present ≡ true → Nameable limit t
unfolding row7
nameable limit t e p =
    let r = neither _ _ (test _ _ _ (under t.present _ p e)) in
    record { below = leb-false _ _ r.0; aligned = aligned _ _ r.1 }

whole : (w : Window) → row4 w ≡ [] → Aligned w.span
unfolding row4
whole w e = aligned _ _ (test _ _ _ e)

-- a check of row 6, where it applies
checked :
    (n : ℕ) (applies : Bool) (base align : ℕ) →
    row6 (check n applies base align) ≡ [] → applies ≡ true → base % align ≡ 0
unfolding row6
checked n applies base align e p =
    let f : (applies && unaligned base align) ≡ false = test _ _ _ e in aligned base align (rw p at f)

passes :
    (l : Layout) → each row6 (checks_of l) ≡ [] → (k : ℕ) → k < length (checks_of l) → row6 (get_or (checks_of l) k (check 0 false 0 0)) ≡ []
passes l e k h = all_at (λ c. row6 c ≡ []) (checks_of l) k (check 0 false 0 0) h (each_none row6 (checks_of l) e)

pub accepted_facts : AcceptedFacts
unfolding refusals_at window_rows flat_map row5 row8
accepted_facts limit l e =
    let held = capped limit in
    let rows = none _ e in
    let r4 = both (each row4 (devices_of l)) _ rows in
    let r5 = both (row5 l) _ r4.1 in
    let r6 = both (each row6 (checks_of l)) _ r5.1 in
    let r7 = both (each (row7 held) (tables_of l)) _ r6.1 in
    let r8 = both (row8 l) _ r7.1 in
    let rest = (both (window_rows held (windows_of l)) [] r8.1).0 in
    let r9 = both (each row9 (windows_of l)) _ rest in
    let r10 = both (each (row10 held) (windows_of l)) _ r9.1 in
    let r11 = both (pairs pair_rows (windows_of l)) [] r10.1 in
    let in-slots = each_none row9 (windows_of l) r9.0 in
    let in_reach = each_none (row10 held) (windows_of l) r10.0 in
    record {
      lengths = all_map (λ w. row4 w ≡ []) _ whole (devices_of l) (each_none row4 (devices_of l) r4.0);
      frame_size = eqb-true _ _ (not-false _ (test _ _ _ r5.0));
      data_ipa = checked 1 true _ _ (passes l r6.0 0 (omega arith)) refl;
      data_pa = checked 2 true _ _ (passes l r6.0 1 (omega arith)) refl;
      sup_ipa = checked 3 true _ _ (passes l r6.0 2 (omega arith)) refl;
      sup_pa = checked 4 true _ _ (passes l r6.0 3 (omega arith)) refl;
      image = checked 5 _ _ _ (passes l r6.0 4 (omega arith));
      devices = (checked 6 _ _ _ (passes l r6.0 5 (omega arith)), tt);
      tables = all_map (λ t. row7 held t ≡ []) _ (nameable held) (tables_of l) (each_none (row7 held) (tables_of l) r7.0);
      frames = leb-false _ _ (test _ _ _ r8.0);
      windows = all_map _ _ (within held) (windows_of l)
          (all_both (λ w. row9 w ≡ []) (λ w. row10 held w ≡ []) (windows_of l) in-slots in_reach);
      apart = pairs_map (λ w. row9 w ≡ []) _ _ apart (windows_of l) in-slots (pairs_none pair_rows (windows_of l) r11.0);
    }

-- a device that is absent has no length
no_length : (n : ℕ) → ltb 0 n ≡ false → n ≡ 0
no_length n e = let h = ltb-false 0 n e in omega (arith, h)

pub absent_devices : (l : Layout) → All (λ w. w.present ≡ false → w.span ≡ 0) (devices_of l)
absent_devices l = (no_length l.device_len, tt)
