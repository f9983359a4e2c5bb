-- A frame has an entry in both maps only where the lesser of its two is not zero.
use Prim.Native.Nat.{ℕ, suc, zero, ◌≤◌, min, max}
use mathlib.Core.Bool.{Bool, true, false}
use mathlib.Core.List.{List, [], ◌∷◌}
use mathlib.Core.Path.{◌≡◌, refl, sym}
use native.Mathlib.Omega.{arith}
use lib.Dec.{eqb}
use lib.ListN.{get_or}
use borrow.Author.Tests.{eqb-false, eq-eqb}
use Rattle.std.specs.List.{fold, zip}
use Rattle.conflict.specs.Conflict.{row17, largest_shared}
use Rattle.refusal.proofs.None.{accept, from_nowhere}
use Rattle.refusal.specs.Table.{accepted, first, each_from}

pub no_conflict_at : (sup : List ℕ) (m entry : ℕ) → min entry (get_or sup m 0) ≤ 0 → row17 sup m entry ≡ []
unfolding row17
no_conflict_at sup m entry h = go (eqb entry 0) refl
  where
    go : (b : Bool) → eqb entry 0 ≡ b → row17 sup m entry ≡ []
    go true t = rw t
    go false t =
        let mapped = eqb-false entry 0 t in
        let other : get_or sup m 0 ≡ 0 = omega (arith, h, mapped) in rw (t, eq-eqb _ _ other)

apart :
    (base sup : List ℕ) (most : ℕ) → fold (λ most p. max most (min p.0 p.1)) most (zip base sup) ≡ 0 →
    (most ≡ 0) × ((m : ℕ) → min (get_or base m 0) (get_or sup m 0) ≡ 0)
apart [] sup most e = (e, λ m. omega arith)
apart (b ∷ base) [] most e = (e, λ m. omega arith)
apart (b ∷ base) (s ∷ sup) most e =
    let later = apart base sup (max most (min b s)) e in
    (omega (arith, later.0), λ m. elim m as (λ k. min (get_or (b ∷ base) k 0) (get_or (s ∷ sup) k 0) ≡ 0) [ zero ↦ omega (arith, later.0) | suc i ↦ later.1 i ])

pub none_shared : (base sup : List ℕ) → largest_shared base sup ≡ 0 → accepted ≡ first (each_from (row17 sup) 0 base)
none_shared base sup e =
    let none = apart base sup 0 e in
    sym (accept _ (from_nowhere (row17 sup) base 0 (λ m inside. no_conflict_at sup m (get_or base m 0) (omega (arith, none.1 m)))))
