-- The leaf word of an entry: none, or what the entry grants.
use Rattle.std.specs.Prelude.{None}
use Prim.Native.Nat.{ℕ, ◌+◌}
use mathlib.Core.Bool.{Bool, true, false}
use mathlib.Core.Path.{◌≡◌, refl, sym, subst}
use native.Mathlib.Omega.{arith}
use lib.Dec.{eqb}
use borrow.Author.Tests.{eqb-true}
use Rattle.arena.specs.Word.{page_to, block_to, image_to, device_to, leaf_for}
use Rattle.decode.specs.Emitted.{Output}
use Rattle.desc.specs.Descriptor.{page_address, block_address}
use Rattle.desc.specs.WordFields.{read_write}
use Rattle.desc.specs.Words.{page_word, block_word, image_word, device_word, leaf_access_xn}
use Rattle.desc.specs.declared.AccessXn.{AccessXn}
use Rattle.perm.specs.Perm.{perm_code}
use Rattle.perm.specs.declared.Perm.TheVariants.{Ro, Rw, Rx}
use Rattle.perm.specs.declared.Perm.{Perm}
use Rattle.window_reach.specs.Granted.{reach_at, by_entry}
use Rattle.demand_2.proofs.Leaves.{PageLeaf, BlockLeaf, page_leaf, block_leaf, device_leaf}

-- a word by an entry: 0 where the entry grants nothing, or a leaf of what it grants
pub data Entry (Leaf : ℕ → ℕ → AccessXn → Type 0) (d pa : ℕ) (exempt : Bool) (e : ℕ) : Type 0 where
  unmapped : d ≡ 0 → ((out : ℕ) → by_entry out exempt e ≡ None) → Entry Leaf d pa exempt e
  mapped : (a : AccessXn) → Leaf d pa a → ((out : ℕ) → by_entry out exempt e ≡ reach_at out a) → Entry Leaf d pa exempt e

-- an entry stands for a permission, or for none
data Coded (e : ℕ) : Type 0 where
  is : (p : Perm) → e ≡ perm_code p → Coded e
  none : eqb e 1 ≡ false → eqb e 2 ≡ false → eqb e 3 ≡ false → Coded e

coded : (e : ℕ) → Coded e
coded e = go (eqb e 1) (eqb e 2) (eqb e 3) refl refl refl
  where
    go : (a b c : Bool) → eqb e 1 ≡ a → eqb e 2 ≡ b → eqb e 3 ≡ c → Coded e
    go true b c p q r = is Ro (eqb-true _ _ p)
    go false true c p q r = is Rw (eqb-true _ _ q)
    go false false true p q r = is Rx (eqb-true _ _ r)
    go false false false p q r = none p q r

module _
    (Leaf : ℕ → ℕ → AccessXn → Type 0) (word : Perm → ℕ) (pa : ℕ) (exempt : Bool)
    (emits : (p : Perm) → Leaf (word p) pa (leaf_access_xn p exempt))
  where
    of_perm : (p : Perm) → Entry Leaf (leaf_for (perm_code p) word) pa exempt (perm_code p)
    of_perm Ro = mapped (leaf_access_xn Ro exempt) (emits Ro) (λ out. refl)
    of_perm Rw = mapped (leaf_access_xn Rw exempt) (emits Rw) (λ out. refl)
    of_perm Rx = mapped (leaf_access_xn Rx exempt) (emits Rx) (λ out. refl)

    of_code : (e : ℕ) → Coded e → Entry Leaf (leaf_for e word) pa exempt e
    of_code e (is p q) = subst (λ (n : ℕ). Entry Leaf (leaf_for n word) pa exempt n) (sym q) (of_perm p)
    of_code e (none p q r) = unmapped (rw (p, q, r)) (λ out. rw (p, q, r))

    pub of_entry : (e : ℕ) → Entry Leaf (leaf_for e word) pa exempt e
    of_entry e = of_code e (coded e)

-- an aligned address is held whole
page_whole : (pa : ℕ) → Output 12 pa → page_address pa ≡ pa
page_whole pa o = omega arith

block_whole : (pa : ℕ) → Output 21 pa → block_address pa ≡ pa
block_whole pa o = omega arith

pub page_entry : (pa e : ℕ) → Output 12 pa → Entry PageLeaf (leaf_for e (page_to pa)) pa false e
page_entry pa e o =
    of_entry PageLeaf (page_to pa) pa false
    (λ p. subst (λ (n : ℕ). PageLeaf (n + page_word p) pa (leaf_access_xn p false)) (sym (page_whole pa o)) (page_leaf pa p o)) e

pub block_entry : (pa e : ℕ) (exempt : Bool) → Output 21 pa → Entry BlockLeaf (leaf_for e (block_to pa exempt)) pa exempt e
block_entry pa e exempt o =
    of_entry BlockLeaf (block_to pa exempt) pa exempt
    (λ p. subst (λ (n : ℕ). BlockLeaf (n + block_word p exempt) pa (leaf_access_xn p exempt)) (sym (block_whole pa o))
    (block_leaf pa p exempt o)) e

pub image_entry_lem : (pa : ℕ) → Output 21 pa → Entry BlockLeaf (image_to pa) pa false (perm_code Rx)
image_entry_lem pa o =
    mapped (leaf_access_xn Rx false)
    (subst (λ (n : ℕ). BlockLeaf (n + image_word) pa (leaf_access_xn Rx false)) (sym (block_whole pa o)) (block_leaf pa Rx false o))
    (λ out. refl)

pub device_entry_lem : (pa : ℕ) → Output 21 pa → Entry BlockLeaf (device_to pa) pa false (perm_code Rw)
device_entry_lem pa o =
    mapped read_write
    (subst (λ (n : ℕ). BlockLeaf (n + device_word) pa read_write) (sym (block_whole pa o)) (device_leaf pa o)) (λ out. refl)
