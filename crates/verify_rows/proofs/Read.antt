-- What is read of the words that encoding leaves is what verification wants; and where it is, no row applies.
use Rattle.std.specs.Prelude.{Some, None, Option}
use Rattle.decode.specs.declared.DecodedDevice.{DecodedDevice}
use Rattle.decode.specs.declared.Decoded.{Decoded}
use Prim.Native.Nat.{ℕ}
use mathlib.Core.Bool.{Bool, true, false, not, ◌&&◌, and-false}
use mathlib.Core.List.{List, [], ◌∷◌}
use mathlib.Core.Path.{◌≡◌, refl, ap}
use native.Mathlib.Omega.{arith}
use lib.Dec.{eqb}
use borrow.Author.Tests.{eq-eqb}
use Rattle.arena.specs.Word.{page_to, block_to, leaf_for}
use Rattle.decode.proofs.Emitted.{emitted_decodes}
use Rattle.decode.specs.Decoded.{decoded_table, decoded_device}
use Rattle.decode.specs.Emitted.{Output, leaf_with}
use Rattle.desc.specs.Descriptor.{page_address, block_address}
use Rattle.desc.specs.WordFields.{read_execute}
use Rattle.desc.specs.Words.{leaf_access_xn}
use Rattle.fields.specs.Named.{pick, named}
use Rattle.fields.specs.Numbers.{bit}
use Rattle.perm.specs.Perm.{perm_code}
use Rattle.perm.specs.declared.Perm.TheVariants.{Ro, Rw, Rx}
use Rattle.perm.specs.declared.Perm.{Perm}
use Rattle.refusal.specs.Table.{Row, given}
use Rattle.verify_rows.specs.Word.{read_page, read_block, same_leaf, same_block, row18, row19, wanted_leaf, leaf_row, block_row}

-- an address as a word holds it is an output
pub held_page : (x : ℕ) → Output 12 (page_address x)
held_page x = record { below = omega arith; aligned = omega arith }

pub held_block : (x : ℕ) → Output 21 (block_address x)
held_block x = record { below = omega arith; aligned = omega arith }

-- the word of an entry is read as the leaf that the entry wants

read :
    (decode : ℕ → Option Decoded) (word : Perm → ℕ) (leaf : Perm → Option Decoded) →
    ((p : Perm) → decode (word p) ≡ leaf p) →
    decode 0 ≡ None →
    (entry : ℕ) → decode (leaf_for entry word) ≡ named perm_code (Ro ∷ Rw ∷ Rx ∷ []) leaf None entry
read decode word leaf some none entry = go (eqb entry 1) (eqb entry 2) (eqb entry 3)
  where
    go :
        (a b c : Bool) →
        decode (pick a (word Ro) (pick b (word Rw) (pick c (word Rx) 0)))
        ≡ pick a (leaf Ro) (pick b (leaf Rw) (pick c (leaf Rx) None))
    go true b c = some Ro
    go false true c = some Rw
    go false false true = some Rx
    go false false false = none

pub page_read : (entry x : ℕ) → read_page (leaf_for entry (page_to x)) ≡ wanted_leaf entry (page_address x) false
page_read entry x =
    read read_page (page_to x) (λ p. leaf_with (page_address x) (leaf_access_xn p false))
    (λ p. emitted_decodes.page (page_address x) p (held_page x)) refl entry

pub block_read :
    (entry x : ℕ) (exempt : Bool) →
    read_block (leaf_for entry (block_to x exempt)) ≡ wanted_leaf entry (block_address x) exempt
block_read entry x exempt =
    read read_block (block_to x exempt) (λ p. leaf_with (block_address x) (leaf_access_xn p exempt))
    (λ p. emitted_decodes.block (block_address x) p exempt (held_block x)) refl entry

-- where what is found is what is wanted, no row applies

leaf_itself : (x : Option Decoded) → same_leaf x x ≡ true
leaf_itself (Some a) =
    simp (eq-eqb a.pa _ refl, eq-eqb (perm_code a.perm) _ refl, eq-eqb (bit a.xn) _ refl)
leaf_itself None = refl

block_itself : (x : Option DecodedDevice) → same_block x x ≡ true
block_itself (Some a) = simp (eq-eqb a.pa _ refl, eq-eqb (bit a.xn) _ refl)
block_itself None = refl

pub no_leaf_row : (t j d m : ℕ) (found want : Option Decoded) → found ≡ want → leaf_row t j d m found want ≡ []
unfolding leaf_row
no_leaf_row t j d m found want e = rw (e, leaf_itself want)

pub no_block_row : (t j d : ℕ) (want : Option DecodedDevice) → decoded_device d ≡ want → block_row t j d want ≡ []
unfolding block_row
no_block_row t j d want e = rw (e, block_itself want)

pub no_row18 : (t j d pa : ℕ) → decoded_table d ≡ Some (page_address pa) → row18 t j d pa ≡ []
unfolding row18
no_row18 t j d pa e = rw (e, eq-eqb (page_address pa) _ refl)

pub no_row19 : (d pa : ℕ) → read_block d ≡ leaf_with (block_address pa) read_execute → row19 d pa ≡ []
unfolding row19
no_row19 d pa e = rw (e, leaf_itself (leaf_with (block_address pa) read_execute))

pub no_rows : (t : Bool) (rows : List Row) → (t ≡ true → rows ≡ []) → given t rows ≡ []
no_rows true rows h = h refl
no_rows false rows h = refl

-- another word is 0
pub no_other : (d : ℕ) (live : Bool) (rows : List Row) → (live ≡ false → d ≡ 0) → given (not (eqb d 0) && not live) rows ≡ []
no_other d true rows h = ap (λ t. given t rows) (and-false (not (eqb d 0)))
no_other d false rows h = rw (eq-eqb d 0 (h refl))
