-- Rows 23 and 24 of an entry, by the widest that its frame may have.
use Rattle.std.specs.Prelude.{Option, Some, None}
use Prim.Native.Nat.{ℕ, zero, suc, ◌+◌, ◌≤◌, ◌<◌, zero-le, suc-le-suc}
use mathlib.Core.Bool.{Bool, true, false, not, ◌&&◌, ◌||◌, false≢true}
use mathlib.Core.List.{List, [], ◌∷◌, ◌++◌}
use mathlib.Core.Path.{◌≡◌, refl, sym, ap, ap₂, ◌∙◌}
use native.Mathlib.Omega.{arith}
use native.Mathlib.Nat.{le_of_suc-le-suc, le_trans, not-suc-le-zero}
use lib.Dec.{eqb, leb}
use lib.ListN.{length, get_or}
use Rattle.std.specs.List.{fold, zip}
use Rattle.authority.specs.Authority.{has_grant, reaches, owner_rows, reach_rows}
use Rattle.authority.specs.Widest.{widest, widest_at, asked, all_within, entry_rows, held_rows}
use Rattle.authority.proofs.Grants.{reading}
use Rattle.fields.proofs.Named.{has_code}
use Rattle.fields.specs.Named.{pick}
use Rattle.grant.specs.declared.Grant.{Grant}
use Rattle.map_entries.proofs.Larger.{at_most}
use Rattle.map_entries.specs.Larger.{largest}
use Rattle.p2m.specs.Frame.{owner_of}
use Rattle.perm.specs.Perm.{perm_code, perm_writes, entry_named}
use Rattle.perm.specs.declared.Perm.TheVariants.{Ro, Rw, Rx}
use Rattle.perm.specs.declared.Perm.{Perm}
use Rattle.refusal.proofs.None.{accept, from_nowhere}
use Rattle.refusal.specs.Outcome.{refuse}
use Rattle.refusal.specs.Table.{Row, accepted, first, each_from}
use Rattle.refusal.specs.declared.Refusal.TheVariants.{UnauthorizedMapping, WriteEscalation}
use Rattle.refusal.specs.declared.Refusal.{Refusal}

-- w for writing, r and x what may be reached for reading and for writing: what may be reached is not refused
quiet :
    (w r x : Bool) (a b : Refusal) →
    r ≡ true → (w ≡ true → x ≡ true) → refuse (not r) a ++ refuse (w && r && not x) b ≡ []
quiet true r x a b e f = rw (e, f refl)
quiet false r x a b e f = rw e

module _ (grants : List Grant) (dom m : ℕ) where
  -- who may write may read
  reads : (w : Bool) (o : Option ℕ) → reaches grants dom m w o ≡ true → reaches grants dom m false o ≡ true
  reads false o e = e
  reads true None e = e
  reads true (Some o) e = go (eqb o dom) e
    where
      go : (own : Bool) → (own || has_grant grants o dom m true) ≡ true → (own || has_grant grants o dom m false) ≡ true
      go true e = refl
      go false e = reading grants o dom m e

  pub allowed :
      (p : Perm) (o : Option ℕ) → reaches grants dom m (perm_writes p) o ≡ true → owner_rows grants dom m (Some p) o ≡ []
  unfolding owner_rows
  allowed p (Some o) r =
      quiet (perm_writes p) (reaches grants dom m false (Some o)) (reaches grants dom m true (Some o))
      (UnauthorizedMapping dom m (Some o) p) (WriteEscalation dom m o)
      (reads (perm_writes p) (Some o) r)
      (λ w. sym (ap (λ x. reaches grants dom m x (Some o)) w) ∙ r)
  allowed p None r = absurd (false≢true r)

-- a mapped entry asks for writing or for reading

code_of : (byte : ℕ) (p : Perm) → entry_named byte ≡ Some p → byte ≡ perm_code p
code_of byte p e = has_code perm_code (Ro ∷ Rw ∷ Rx ∷ []) Some None byte p (λ x y e. cc) (λ e. cc) e

unowned : (p : Perm) (a : Refusal) → refuse (not (leb (asked (perm_code p)) 0)) a ≡ refuse true a
unowned Ro a = refl
unowned Rw a = refl
unowned Rx a = refl

-- what is asked beside the widest that r and x give: the rows by r and x, which refuse by a and b
by_widest :
    (p : Perm) (r x : Bool) (a b : Refusal) → (x ≡ true → r ≡ true) →
    refuse (not (leb (asked (perm_code p)) (widest r x))) (pick (eqb (widest r x) 0) a b)
    ≡ refuse (not r) a ++ refuse (perm_writes p && r && not x) b
by_widest Ro true true a b f = refl
by_widest Rw true true a b f = refl
by_widest Rx true true a b f = refl
by_widest Ro true false a b f = refl
by_widest Rw true false a b f = refl
by_widest Rx true false a b f = refl
by_widest Ro false false a b f = refl
by_widest Rw false false a b f = refl
by_widest Rx false false a b f = refl
by_widest p false true a b f = absurd (false≢true (f refl))

-- the rows of a frame are those of its entry and its owner

module _ (frames : List (List ℕ)) (grants : List Grant) (dom m byte : ℕ) where
  pub unmapped : entry_named byte ≡ None → reach_rows frames grants dom m byte ≡ []
  unfolding reach_rows owner_rows
  unmapped e = rw e

  pub of_owner :
      (p : Perm) → entry_named byte ≡ Some p →
      (o : Option ℕ) → owner_of frames m ≡ o → reach_rows frames grants dom m byte ≡ owner_rows grants dom m (Some p) o
  unfolding reach_rows
  of_owner p mapped o e = rw (mapped, e)

  pub held :
      (most : ℕ) → most ≡ widest_at frames grants dom m →
      held_rows most dom m byte (owner_of frames m) ≡ reach_rows frames grants dom m byte
  unfolding widest_at reach_rows owner_rows
  held most by = rw by (go (entry_named byte) refl (owner_of frames m))
    where
      go :
          (e : Option Perm) → entry_named byte ≡ e → (o : Option ℕ) →
          entry_rows (widest (reaches grants dom m false o) (reaches grants dom m true o)) dom m byte e o
          ≡ owner_rows grants dom m e o
      go None t o = refl
      go (Some p) t None = rw (code_of byte p t) (unowned p (UnauthorizedMapping dom m None p))
      go (Some p) t (Some o) = rw (code_of byte p t) (by_widest p (reaches grants dom m false (Some o)) (reaches grants dom m true (Some o)) (UnauthorizedMapping dom m (Some o) p) (WriteEscalation dom m o) (reads grants dom m true (Some o)))

-- what asks for no more than its frame may have is let by
pub let_by : (most dom m byte : ℕ) (o : Option ℕ) → leb (asked byte) most ≡ true → held_rows most dom m byte o ≡ []
let_by most dom m byte o enough = go (entry_named byte)
  where
    go : (e : Option Perm) → entry_rows most dom m byte e o ≡ []
    go (Some p) = rw enough
    go None = refl

-- where all are let by, no row applies
within_at :
    (xs most : List ℕ) (b : Bool) → fold (λ within p. within && leb (asked p.0) p.1) b (zip xs most) ≡ true →
    (b ≡ true) × ((m : ℕ) → m < length xs → m < length most → leb (asked (get_or xs m 0)) (get_or most m 0) ≡ true)
within_at [] most b e = (e, λ m h. absurd (not-suc-le-zero h))
within_at (x ∷ xs) [] b e = (e, λ m h k. absurd (not-suc-le-zero k))
within_at (x ∷ xs) (w ∷ ws) b e = both b (leb (asked x) w) refl (within_at xs ws (b && leb (asked x) w) e)
  where
    Within : Type 0
    Within = (m : ℕ) → m < length xs → m < length ws → leb (asked (get_or xs m 0)) (get_or ws m 0) ≡ true

    both :
        (b c : Bool) → leb (asked x) w ≡ c → ((b && c) ≡ true) × Within →
        (b ≡ true)
        × ((m : ℕ) → m < length (x ∷ xs) → m < length (w ∷ ws) → leb (asked (get_or (x ∷ xs) m 0)) (get_or (w ∷ ws) m 0) ≡ true)
    both false c t later = absurd (false≢true later.0)
    both true false t later = absurd (false≢true later.0)
    both true true t later = (refl, at)
      where
        at : (m : ℕ) → m < length (x ∷ xs) → m < length (w ∷ ws) → leb (asked (get_or (x ∷ xs) m 0)) (get_or (w ∷ ws) m 0) ≡ true
        at zero h k = t
        at (suc m) h k = later.1 m (le_of_suc-le-suc h) (le_of_suc-le-suc k)

-- by the widest of all frames
abbrev pub by_most : List (List ℕ) → ℕ → List ℕ → ℕ → ℕ → List Row
by_most frames dom most m entry = held_rows (get_or most m 0) dom m entry (owner_of frames m)

pub none_mapped :
    (frames : List (List ℕ)) (grants : List Grant) (dom : ℕ) (xs : List ℕ) →
    largest xs ≡ 0 → accepted ≡ first (each_from (reach_rows frames grants dom) 0 xs)
none_mapped frames grants dom xs e =
    let zero : (m : ℕ) → get_or xs m 0 ≡ 0 = λ m. omega (arith, at_most xs _ refl m, e) in
    sym
    (accept _
    (from_nowhere (reach_rows frames grants dom) xs 0 (λ m inside. unmapped frames grants dom m _ (ap entry_named (zero m)))))

module _ (frames : List (List ℕ)) (grants : List Grant) (dom : ℕ) (most : List ℕ) where
  held_from :
      (k : ℕ) (xs : List ℕ) → ((i : ℕ) → i < length xs → get_or most (k + i) 0 ≡ widest_at frames grants dom (k + i)) →
      each_from (by_most frames dom most) k xs ≡ each_from (reach_rows frames grants dom) k xs
  unfolding each_from
  held_from k [] by = refl
  held_from k (x ∷ xs) by =
      let z : k + 0 ≡ k = omega arith in
      let here = held frames grants dom k x (get_or most k 0) (rw z at (by 0 (suc-le-suc zero-le))) in
      let later = held_from (suc k) xs (λ i h. let s : suc k + i ≡ k + suc i = omega arith in rw s (by (suc i) (suc-le-suc h))) in
      ap₂ (λ (a b : List Row). a ++ b) here later

  module _ (xs : List ℕ) (by : (m : ℕ) → m < length xs → get_or most m 0 ≡ widest_at frames grants dom m) where
    pub held_all : each_from (by_most frames dom most) 0 xs ≡ each_from (reach_rows frames grants dom) 0 xs
    held_all = held_from 0 xs (λ i h. let z : 0 + i ≡ i = omega arith in rw z (by i h))

    pub all_held : length xs ≤ length most → all_within xs most ≡ true → accepted ≡ first (each_from (reach_rows frames grants dom) 0 xs)
    all_held short e =
        sym
        (accept _
        (sym held_all
        ∙ from_nowhere (by_most frames dom most) xs 0
        (λ m inside. let_by (get_or most m 0) dom m (get_or xs m 0) (owner_of frames m) ((within_at xs most true e).1 m inside (le_trans inside short)))))
