-- Where no row applies to a word, what is found there is what is wanted.
use Rattle.std.specs.Prelude.{Some, None, Option}
use Rattle.decode.specs.declared.DecodedDevice.{DecodedDevice}
use Rattle.decode.specs.declared.Decoded.{Decoded}
use Prim.Native.Nat.{ℕ}
use mathlib.Core.Bool.{Bool, true, false, not, ◌&&◌, ◌||◌}
use mathlib.Core.List.{[], ◌∷◌}
use mathlib.Core.Path.{◌≡◌, refl, ap, ◌∙◌}
use native.Mathlib.Omega.{arith}
use lib.Dec.{eqb}
use borrow.Author.Tests.{eqb-true, not-false}
use Rattle.decode.specs.Decoded.{decoded_table, decoded_device}
use Rattle.decode.specs.Emitted.{leaf_with}
use Rattle.desc.specs.Descriptor.{page_address, block_address}
use Rattle.desc.specs.WordFields.{read_execute}
use Rattle.fields.specs.Numbers.{bit}
use Rattle.perm.specs.Perm.{perm_code}
use Rattle.perm.specs.declared.Perm.TheVariants.{Ro, Rw, Rx}
use Rattle.perm.specs.declared.Perm.{Perm}
use Rattle.refusal.proofs.None.{only}
use Rattle.refusal.specs.Table.{Row, given}
use Rattle.verify_rows.specs.Word.{read_block, same_table, same_leaf, same_block, row18, row19, leaf_row, block_row}

pub halves : (a b : Bool) → (a && b) ≡ true → (a ≡ true) × (b ≡ true)
halves true b e = (refl, e)
halves false b e = absurd (let z : ◌≡◌ {A = ℕ} 0 1 = cc in omega arith)

pub neither : (a b : Bool) → (a || b) ≡ false → (a ≡ false) × (b ≡ false)
neither true b e = absurd (let z : ◌≡◌ {A = ℕ} 0 1 = cc in omega arith)
neither false b e = (refl, e)

same_perm : (p q : Perm) → perm_code p ≡ perm_code q → p ≡ q
same_perm Ro Ro e = refl
same_perm Ro Rw e = absurd (omega (arith, e))
same_perm Ro Rx e = absurd (omega (arith, e))
same_perm Rw Ro e = absurd (omega (arith, e))
same_perm Rw Rw e = refl
same_perm Rw Rx e = absurd (omega (arith, e))
same_perm Rx Ro e = absurd (omega (arith, e))
same_perm Rx Rw e = absurd (omega (arith, e))
same_perm Rx Rx e = refl

same_bit : (a b : Bool) → bit a ≡ bit b → a ≡ b
same_bit true true e = refl
same_bit true false e = absurd (omega (arith, e))
same_bit false true e = absurd (omega (arith, e))
same_bit false false e = refl

leaf_told : (x y : Option Decoded) → same_leaf x y ≡ true → x ≡ y
leaf_told (Some a) (Some b) e =
    let outer = halves _ (eqb (bit a.xn) (bit b.xn)) e in
    let inner = halves (eqb a.pa b.pa) _ outer.0 in
    let never = same_bit a.xn b.xn (eqb-true _ _ outer.1) in
    let access = same_perm a.perm b.perm (eqb-true _ _ inner.1) in
    ap (λ (x : ℕ). Some (record { pa = x; perm = a.perm; xn = a.xn })) (eqb-true _ _ inner.0)
    ∙ ap (λ (x : Perm). Some (record { pa = b.pa; perm = x; xn = a.xn })) access
    ∙ ap (λ (x : Bool). Some (record { pa = b.pa; perm = b.perm; xn = x })) never
leaf_told (Some a) None e = absurd (let z : ◌≡◌ {A = ℕ} 0 1 = cc in omega arith)
leaf_told None (Some b) e = absurd (let z : ◌≡◌ {A = ℕ} 0 1 = cc in omega arith)
leaf_told None None e = refl

block_told : (x y : Option DecodedDevice) → same_block x y ≡ true → x ≡ y
block_told (Some a) (Some b) e =
    let both = halves (eqb a.pa b.pa) _ e in
    ap (λ (x : ℕ). Some (record { pa = x; xn = a.xn })) (eqb-true _ _ both.0)
    ∙ ap (λ (x : Bool). Some (record { pa = b.pa; xn = x })) (same_bit a.xn b.xn (eqb-true _ _ both.1))
block_told (Some a) None e = absurd (let z : ◌≡◌ {A = ℕ} 0 1 = cc in omega arith)
block_told None (Some b) e = absurd (let z : ◌≡◌ {A = ℕ} 0 1 = cc in omega arith)
block_told None None e = refl

table_told : (x : Option ℕ) (pa : ℕ) → same_table x pa ≡ true → x ≡ Some pa
table_told (Some a) pa e = ap Some (eqb-true a pa e)
table_told None pa e = absurd (let z : ◌≡◌ {A = ℕ} 0 1 = cc in omega arith)

pub leaf_row_told : (t j d m : ℕ) (found want : Option Decoded) → leaf_row t j d m found want ≡ [] → found ≡ want
unfolding leaf_row
leaf_row_told t j d m found want e = leaf_told found want (not-false (same_leaf found want) (only _ _ e))

pub block_row_told : (t j d : ℕ) (want : Option DecodedDevice) → block_row t j d want ≡ [] → decoded_device d ≡ want
unfolding block_row
block_row_told t j d want e = block_told (decoded_device d) want (not-false (same_block (decoded_device d) want) (only _ _ e))

pub row18_told : (t j d pa : ℕ) → row18 t j d pa ≡ [] → decoded_table d ≡ Some (page_address pa)
unfolding row18
row18_told t j d pa e =
    table_told (decoded_table d) (page_address pa) (not-false (same_table (decoded_table d) (page_address pa)) (only _ _ e))

pub row19_told : (d pa : ℕ) → row19 d pa ≡ [] → read_block d ≡ leaf_with (block_address pa) read_execute
unfolding row19
row19_told d pa e =
    let want = leaf_with (block_address pa) read_execute in
    leaf_told (read_block d) want (not-false (same_leaf (read_block d) want) (only _ _ e))

pub other_told : (d : ℕ) (live : Bool) (r : Row) → given (not (eqb d 0) && not live) (r ∷ []) ≡ [] → live ≡ false → d ≡ 0
other_told d true r e l = absurd (let z : ◌≡◌ {A = ℕ} 0 1 = cc in omega arith)
other_told d false r e l = go (eqb d 0) refl (only _ r e)
  where
    go : (b : Bool) → eqb d 0 ≡ b → (not b && true) ≡ false → d ≡ 0
    go true q f = eqb-true d 0 q
    go false q f = absurd (let z : ◌≡◌ {A = ℕ} 0 1 = cc in omega arith)
