-- `check_authorized_with` accepts exactly the authorized maps: each test of rows 23 and 24 is one way to reach a frame.
use Rattle.std.specs.Prelude.{Option, Some, None}
use Prim.Native.Nat.{ℕ}
use mathlib.Core.Bool.{Bool, true, false, not, ◌&&◌, ◌||◌, false≢true}
use mathlib.Core.List.{List, [], ◌∷◌, flat_map, Memᴰ}
use mathlib.Core.Logic.{inl, inr, ⊎_elim}
use mathlib.Core.Path.{◌≡◌, refl, sym, ap, ◌∙◌}
use lib.Dec.{eqb}
use lib.ListN.{get_or}
use borrow.Author.Tests.{eqb-true, eq-eqb, not-false}
use Rattle.authority.proofs.Owned.{allowed, unmapped, of_owner}
use Rattle.authority.specs.Authority.{has_grant, reaches, row23, owner_rows, reach_rows, authority_rows}
use Rattle.grant.specs.Grant.{covers}
use Rattle.grant.specs.declared.Grant.{Grant}
use Rattle.leafmap_theorems.specs.Authorized.{Granted, MayReach, Authorized, AcceptsAuthorized}
use Rattle.p2m.specs.Frame.{owner_of}
use Rattle.perm.specs.Perm.{perm_writes, entry_named}
use Rattle.perm.specs.declared.Perm.{Perm}
use Rattle.refusal.proofs.None.{none, both, only, accept, from_none, from_nowhere}
use Rattle.refusal.specs.Outcome.{row_of}
use Rattle.refusal.specs.Table.{accepted, first, each_from}
use Rattle.refusal.specs.declared.Refusal.TheVariants.{UnauthorizedMapping, WriteEscalation}
use Rattle.rows.specs.Rows.{read_rows}

-- a test of several parts holds where each does

pub record Parts (a b c d : Bool) : Type 0 where
  pub one : a ≡ true
  pub two : b ≡ true
  pub three : c ≡ true
  pub four : d ≡ true

parts : (a b c d : Bool) → (a && b && c && d) ≡ true → Parts a b c d
parts true true true d e = record { one = refl; two = refl; three = refl; four = e }
parts true true false d e = absurd (false≢true e)
parts true false c d e = absurd (false≢true e)
parts false b c d e = absurd (false≢true e)

or_right : (a b : Bool) → b ≡ true → (a || b) ≡ true
or_right true b e = refl
or_right false b e = e

enough : (w x : Bool) → (not w || x) ≡ true → w ≡ true → x ≡ true
enough true x e t = e
enough false x e t = absurd (false≢true t)

covered : (w x : Bool) → (w ≡ true → x ≡ true) → (not w || x) ≡ true
covered true x f = f refl
covered false x f = refl

-- a grant that covers the access

module _ (owner dom m : ℕ) (w : Bool) where
  in_list : (grants : List Grant) → has_grant grants owner dom m w ≡ true → Granted grants owner dom m w
  unfolding has_grant covers
  in_list [] e = absurd (false≢true e)
  in_list (g ∷ gs) e = go (covers owner dom m w g) refl e (in_list gs)
    where
      go :
          (b : Bool) →
          covers owner dom m w g ≡ b →
          (b || has_grant gs owner dom m w) ≡ true →
          (has_grant gs owner dom m w ≡ true → Granted gs owner dom m w) →
          Granted (g ∷ gs) owner dom m w
      go true c h rest =
          let p = parts (eqb g.frame m) (eqb g.grantee dom) (eqb g.grantor owner) (not w || g.writable) c in
          record {
            grant = g;
            listed = Memᴰ.head refl;
            grantor = eqb-true _ _ p.three;
            grantee = eqb-true _ _ p.two;
            frame = eqb-true _ _ p.one;
            enough = enough w g.writable p.four;
          }
      go false c h rest =
          let r = rest h in
          record {
            grant = r.grant;
            listed = Memᴰ.tail r.listed;
            grantor = r.grantor;
            grantee = r.grantee;
            frame = r.frame;
            enough = r.enough;
          }

  covers_it :
      (g : Grant) →
      g.grantor ≡ owner → g.grantee ≡ dom → g.frame ≡ m → (w ≡ true → g.writable ≡ true) → covers owner dom m w g ≡ true
  unfolding covers
  covers_it g o d f e = rw (eq-eqb _ _ f, eq-eqb _ _ d, eq-eqb _ _ o, covered w g.writable e)

  found :
      (grants : List Grant) (g : Grant) →
      Memᴰ g grants → covers owner dom m w g ≡ true → has_grant grants owner dom m w ≡ true
  unfolding has_grant
  found [] g t c = elim t [ ]
  found (x ∷ xs) g (Memᴰ.head q) c = rw (ap (covers owner dom m w) (sym q) ∙ c)
  found (x ∷ xs) g (Memᴰ.tail t) c = or_right (covers owner dom m w x) (has_grant xs owner dom m w) (found xs g t c)

  from_list : (grants : List Grant) → Granted grants owner dom m w → has_grant grants owner dom m w ≡ true
  from_list grants r =
      found grants r.grant r.listed (covers_it r.grant r.grantor r.grantee r.frame r.enough)

-- a frame that may be reached, by its owner
module _ (frames : List (List ℕ)) (grants : List Grant) (dom m : ℕ) (w : Bool) where
  may_reach : reaches grants dom m w (owner_of frames m) ≡ true → MayReach frames grants dom m w
  may_reach e = go (owner_of frames m) refl e
    where
      by :
          (o : ℕ) (own : Bool) →
          owner_of frames m ≡ Some o →
          eqb o dom ≡ own → (own || has_grant grants o dom m w) ≡ true → MayReach frames grants dom m w
      by o true t q e = inl (t ∙ ap Some (eqb-true o dom q))
      by o false t q e = inr (record { owner = o; owns = t; grants_it = in_list o dom m w grants e })

      go : (o : Option ℕ) → owner_of frames m ≡ o → reaches grants dom m w o ≡ true → MayReach frames grants dom m w
      go (Some o) t e = by o (eqb o dom) t refl e
      go None t e = absurd (false≢true e)

  reached : MayReach frames grants dom m w → reaches grants dom m w (owner_of frames m) ≡ true
  reached =
      ⊎_elim (λ own. ap (reaches grants dom m w) own ∙ rw (eq-eqb dom dom refl))
      (λ g.
      ap (reaches grants dom m w) g.owns
      ∙ or_right (eqb g.owner dom) _ (from_list g.owner dom m w grants g.grants_it))

-- the tests of rows 23 and 24: w for writing, r and x what may be reached for reading and for writing
let_by : (w r x : Bool) → not r ≡ false → (w && r && not x) ≡ false → (r ≡ true) × (w ≡ true → x ≡ true)
let_by w true x a b = (refl, λ h. not-false x (sym (ap (λ v. v && true && not x) h) ∙ b))
let_by w false x a b = absurd (false≢true (sym a))

module _ (grants : List Grant) (dom m : ℕ) (p : Perm) where
  at_access :
      (w : Bool) (o : Option ℕ) →
      (reaches grants dom m false o ≡ true) × (w ≡ true → reaches grants dom m true o ≡ true) → reaches grants dom m w o ≡ true
  at_access true o e = e.1 refl
  at_access false o e = e.0

  no_owner_row : (o : Option ℕ) → owner_rows grants dom m (Some p) o ≡ [] → reaches grants dom m (perm_writes p) o ≡ true
  unfolding owner_rows
  no_owner_row (Some o) e =
      let rows = both (row23 grants dom m p (Some o)) _ e in
      at_access (perm_writes p) (Some o)
      (let_by (perm_writes p) (reaches grants dom m false (Some o)) (reaches grants dom m true (Some o))
      (only _ (row_of (UnauthorizedMapping dom m (Some o) p)) rows.0)
      (only _ (row_of (WriteEscalation dom m o)) rows.1))
  no_owner_row None e =
      absurd (false≢true (sym (only true (row_of (UnauthorizedMapping dom m None p)) (both (row23 grants dom m p None) _ e).0)))

module _ (frames : List (List ℕ)) (grants : List Grant) (dom m byte : ℕ) where
  pub no_row_reaches :
      reach_rows frames grants dom m byte ≡ [] →
      (p : Perm) → entry_named byte ≡ Some p → MayReach frames grants dom m (perm_writes p)
  no_row_reaches e p mapped =
      may_reach frames grants dom m (perm_writes p)
      (no_owner_row grants dom m p (owner_of frames m)
      (sym (of_owner frames grants dom m byte p mapped (owner_of frames m) refl) ∙ e))

  pub reaches_no_row :
      ((p : Perm) → entry_named byte ≡ Some p → MayReach frames grants dom m (perm_writes p)) →
      reach_rows frames grants dom m byte ≡ []
  reaches_no_row may = go (entry_named byte) refl
    where
      go : (e : Option Perm) → entry_named byte ≡ e → reach_rows frames grants dom m byte ≡ []
      go (Some p) e =
          of_owner frames grants dom m byte p e (owner_of frames m) refl
          ∙ allowed grants dom m p (owner_of frames m) (reached frames grants dom m (perm_writes p) (may p e))
      go None e = unmapped frames grants dom m byte e

sound :
    (frames : List (List ℕ)) (grants : List Grant) (dom : ℕ) (map : List ℕ) →
    first (authority_rows frames grants dom map) ≡ accepted → Authorized frames grants dom map
unfolding authority_rows flat_map
sound frames grants dom map e m inside p mapped =
    let rows = (both (each_from (reach_rows frames grants dom) 0 map) _ (both (read_rows 1 map) _ (none _ e)).1).0 in
    no_row_reaches frames grants dom m (get_or map m 0) (from_none (reach_rows frames grants dom) map 0 rows m inside) p mapped

complete :
    (frames : List (List ℕ)) (grants : List Grant) (dom : ℕ) (map : List ℕ) →
    first (read_rows 1 map) ≡ accepted →
    Authorized frames grants dom map → first (authority_rows frames grants dom map) ≡ accepted
unfolding authority_rows flat_map
complete frames grants dom map readable may =
    accept _
    (rw (
      none _ readable,
      from_nowhere (reach_rows frames grants dom) map 0
          (λ m inside. reaches_no_row frames grants dom m (get_or map m 0) (may m inside)),
    ))

pub accepts_authorized : AcceptsAuthorized
accepts_authorized = record { sound = sound; complete = complete }
