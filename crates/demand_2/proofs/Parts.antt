-- Regions whose windows are apart: the address's slot of table 1 has one area's word and its region's grant, or no word and nothing.
use Rattle.std.specs.Prelude.{Option, None}
use Rattle.reach.specs.declared.Reach.{Reach}
use Prim.Native.Nat.{ℕ}
use mathlib.Core.Bool.{Bool, true, false}
use mathlib.Core.List.{List, [], ◌∷◌, map}
use mathlib.Core.Path.{◌≡◌, refl, sym, ap, subst, ◌∙◌}
use Rattle.areas.specs.Area.{area, area_has}
use Rattle.areas.specs.declared.Area.{Area}
use Rattle.arena.proofs.At.{last_at}
use Rattle.arena.specs.Word.{table_to}
use Rattle.fields.specs.Named.{pick}
use Rattle.refusal.proofs.All.{all_map}
use Rattle.refusal.specs.All.{All, AllPairs}
use Rattle.window_reach.proofs.Grants.{granted_none}
use Rattle.window_reach.specs.Granted.{Region, contains, granted_in, granted_by}

-- a region, and the address of the table that its level 1 word names
pub record Part : Type 0 where
  pub region : Region
  pub table : ℕ

abbrev pub part : Region → ℕ → Part
part r pa = record { region = r; table = pa }

abbrev pub regions_in : List Part → List Region
regions_in ps = map (λ p. p.region) ps

abbrev pub area_in : Part → Area
area_in p = area p.region.window p.table

abbrev pub areas_in : List Part → List Area
areas_in ps = map area_in ps

-- in this window, or nothing
abbrev pub In : ℕ → Region → Option Reach
In x r = pick (contains r.window x) (granted_in r x) None

module _ (x j : ℕ) (C : Option Reach → ℕ → Type 0) where
  abbrev has : Part → Bool
  has p = area_has (area_in p) j

  abbrev Beside : Part → Type 0
  Beside p = has p ≡ false → contains p.region.window x ≡ false

  others_none : (ps : List Part) → All (λ p. has p ≡ false) ps → All Beside ps → All (λ r. contains r.window x ≡ false) (regions_in ps)
  others_none [] none beside = tt
  others_none (p ∷ ps) none beside = (beside.0 none.0, others_none ps none.1 beside.1)

  others_last : (ps : List Part) (old : ℕ) → All (λ p. has p ≡ false) ps → last_at (areas_in ps) j old ≡ old
  others_last [] old none = refl
  others_last (p ∷ ps) old none =
      ap (λ b. last_at (areas_in ps) j (pick b (table_to p.table) old)) none.0 ∙ others_last ps old none.1

  along : {a b : Option Reach} {m n : ℕ} → a ≡ b → m ≡ n → C b n → C a m
  along {b = b} {m = m} e f c = subst (λ r. C r m) (sym e) (subst (C b) (sym f) c)

  pub seen_in :
      (ps : List Part) (old : ℕ) →
      AllPairs (λ p q. has p ≡ true → has q ≡ false) ps →
      All Beside ps →
      All (λ p. has p ≡ true → C (In x p.region) (table_to p.table)) ps →
      C None old →
      C (granted_by (regions_in ps) x) (last_at (areas_in ps) j old)
  unfolding granted_by
  seen_in [] old alone beside sees none = none
  seen_in (p ∷ ps) old alone beside sees none = go (has p) refl (seen_in ps old alone.1 beside.1 sees.1 none)
    where
      go : (b : Bool) → has p ≡ b → C (granted_by (regions_in ps) x) (last_at (areas_in ps) j old)
          → C (granted_by (regions_in (p ∷ ps)) x) (last_at (areas_in (p ∷ ps)) j old)
      go true e later =
          let others = all_map (λ q. has p ≡ true → has q ≡ false) (λ q. has q ≡ false) (λ q f. f e) ps alone.0 in
          let nothing = granted_none (regions_in ps) x (others_none ps others beside.1) in
          let grants = ap (λ r. pick (contains p.region.window x) (granted_in p.region x) r) nothing in
          let names = ap (λ b. last_at (areas_in ps) j (pick b (table_to p.table) old)) e ∙ others_last ps (table_to p.table) others in
          along grants names (sees.0 e)
      go false e later =
          let grants = ap (λ b. pick b (granted_in p.region x) (granted_by (regions_in ps) x)) (beside.0 e) in
          let names = ap (λ b. last_at (areas_in ps) j (pick b (table_to p.table) old)) e in
          along grants names later
