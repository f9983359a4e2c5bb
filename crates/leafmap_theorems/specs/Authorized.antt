-- 'Authorized' as a relation: every mapped frame is the domain's own, or granted by its owner for the mapped access.
use Rattle.std.specs.Prelude.{Some}
use Rattle.std.specs.Prelude.{ℕ, ◌<◌, Bool, true, ◌⊎◌, ◌≡◌, length, get_or}
use mathlib.Core.List.{List, Memᴰ}
use Rattle.authority.specs.Authority.{authority_rows}
use Rattle.grant.specs.declared.Grant.{Grant}
use Rattle.p2m.specs.Frame.{owner_of}
use Rattle.perm.specs.Perm.{perm_writes, entry_named}
use Rattle.perm.specs.declared.Perm.{Perm}
use Rattle.refusal.specs.Table.{accepted, first}
use Rattle.rows.specs.Rows.{read_rows}

-- a grant of the owner's for this access; one for writing covers reading
pub record Granted (grants : List Grant) (owner dom m : ℕ) (w : Bool) : Type 0 where
  pub grant : Grant
  pub listed : Memᴰ grant grants
  pub grantor : grant.grantor ≡ owner
  pub grantee : grant.grantee ≡ dom
  pub frame : grant.frame ≡ m
  pub enough : w ≡ true → grant.writable ≡ true

pub record GrantedByOwner (frames : List (List ℕ)) (grants : List Grant) (dom m : ℕ) (w : Bool) : Type 0 where
  pub owner : ℕ
  pub owns : owner_of frames m ≡ Some owner
  pub grants_it : Granted grants owner dom m w

abbrev pub MayReach : List (List ℕ) → List Grant → ℕ → ℕ → Bool → Type 0
MayReach frames grants dom m w = (owner_of frames m ≡ Some dom) ⊎ GrantedByOwner frames grants dom m w

abbrev pub Authorized : List (List ℕ) → List Grant → ℕ → List ℕ → Type 0
Authorized frames grants dom map =
    (m : ℕ) → m < length map → (p : Perm) → entry_named (get_or map m 0) ≡ Some p → MayReach frames grants dom m (perm_writes p)

-- of a map that may be read, `check_authorized_with` accepts exactly the authorized
pub record AcceptsAuthorized : Type 0 where
  pub sound :
      (frames : List (List ℕ)) (grants : List Grant) (dom : ℕ) (map : List ℕ) →
      first (authority_rows frames grants dom map) ≡ accepted → Authorized frames grants dom map
  pub complete :
      (frames : List (List ℕ)) (grants : List Grant) (dom : ℕ) (map : List ℕ) →
      first (read_rows 1 map) ≡ accepted →
      Authorized frames grants dom map → first (authority_rows frames grants dom map) ≡ accepted
