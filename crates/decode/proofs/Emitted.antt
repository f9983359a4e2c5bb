-- Emitted words decode to what was joined, since an aligned address leaves the fields below it and bit 54 alone.
use Rattle.std.specs.Prelude.{Some}
use Prim.Native.Nat.{ℕ, ◌+◌, ◌*◌, ◌/◌, ◌^◌, ◌<◌}
use mathlib.Core.Bool.{Bool, true, false}
use mathlib.Core.Path.{◌≡◌, refl, subst, ap}
use native.Mathlib.Omega.{arith}
use lib.Dec.{eqb}
use borrow.Author.Tests.{eq-eqb}
use Rattle.desc.specs.Descriptor.{descriptor_type, block_type, table_type, page_type, mem_attr, s2ap, execute_never, xn, page_address}
use Rattle.desc.specs.Descriptor.{block_address}
use Rattle.desc.specs.WordFields.{read_write}
use Rattle.desc.specs.Words.{s2ap_of}
use Rattle.desc.specs.Words.{table_word, page_word, block_word, device_word, leaf_access_xn}
use Rattle.desc.specs.declared.AccessXn.{AccessXn}
use Rattle.fields.specs.Numbers.{bit}
use Rattle.perm.specs.declared.Perm.TheVariants.{Ro, Rw, Rx}
use Rattle.perm.specs.declared.Perm.{Perm}
use Rattle.decode.specs.Decoded.{decoded_page, decoded_block, decoded_table, decoded_device, leaf_at, access_named}
use Rattle.decode.specs.Emitted.{EmittedDecodes, Output, leaf_with}

-- what holds of every multiple of the alignment below 2 ^ 48 holds of every output
module _ (P : ℕ → Type 0) (pa : ℕ) where
  from_pages : ((q : ℕ) → q < 2 ^ 36 → P (q * 2 ^ 12)) → Output 12 pa → P pa
  from_pages f o = let e : pa / 2 ^ 12 * 2 ^ 12 ≡ pa = omega arith in subst P e (f (pa / 2 ^ 12) (omega arith))

  from_blocks : ((q : ℕ) → q < 2 ^ 27 → P (q * 2 ^ 21)) → Output 21 pa → P pa
  from_blocks f o = let e : pa / 2 ^ 21 * 2 ^ 21 ≡ pa = omega arith in subst P e (f (pa / 2 ^ 21) (omega arith))

never : (d : ℕ) (b : Bool) → xn d ≡ bit b → execute_never d ≡ b
never d true e = ap (λ (n : ℕ). eqb n 1) e
never d false e = ap (λ (n : ℕ). eqb n 1) e

-- a word with these fields decodes to the leaf of its address
module _ (pa d : ℕ) (a : AccessXn) (reads : access_named (s2ap_of a.access) ≡ Some a.access) where
  leaf_at_lem : s2ap d ≡ s2ap_of a.access → xn d ≡ bit a.xn → leaf_at pa d ≡ leaf_with pa a
  leaf_at_lem s x = simp (s, reads, never d a.xn x)

  page_at_lem :
      descriptor_type d ≡ page_type →
      page_address d ≡ pa → s2ap d ≡ s2ap_of a.access → xn d ≡ bit a.xn → decoded_page d ≡ leaf_with pa a
  page_at_lem t e s x = simp (eq-eqb _ _ t, e) (leaf_at_lem s x)

  block_at :
      descriptor_type d ≡ block_type →
      block_address d ≡ pa → s2ap d ≡ s2ap_of a.access → xn d ≡ bit a.xn → decoded_block d ≡ leaf_with pa a
  block_at t e s x = simp (eq-eqb _ _ t, e) (leaf_at_lem s x)

page_decodes : (pa : ℕ) (p : Perm) → Output 12 pa → decoded_page (pa + page_word p) ≡ leaf_with pa (leaf_access_xn p false)
page_decodes pa p =
    from_pages (λ (x : ℕ). decoded_page (x + page_word p) ≡ leaf_with x (leaf_access_xn p false)) pa (λ q h. at q p h)
  where
    at : (q : ℕ) (p : Perm) → q < 2 ^ 36 → decoded_page (q * 2 ^ 12 + page_word p) ≡ leaf_with (q * 2 ^ 12) (leaf_access_xn p false)
    at q Ro h = page_at_lem _ (q * 2 ^ 12 + page_word Ro) _ refl (omega arith) (omega arith) (omega arith) (omega arith)
    at q Rw h = page_at_lem _ (q * 2 ^ 12 + page_word Rw) _ refl (omega arith) (omega arith) (omega arith) (omega arith)
    at q Rx h = page_at_lem _ (q * 2 ^ 12 + page_word Rx) _ refl (omega arith) (omega arith) (omega arith) (omega arith)

block_decodes : (pa : ℕ) (p : Perm) (e : Bool) → Output 21 pa → decoded_block (pa + block_word p e) ≡ leaf_with pa (leaf_access_xn p e)
block_decodes pa p e =
    from_blocks (λ (x : ℕ). decoded_block (x + block_word p e) ≡ leaf_with x (leaf_access_xn p e)) pa (λ q h. at q p e h)
  where
    at :
        (q : ℕ) (p : Perm) (e : Bool) →
        q < 2 ^ 27 → decoded_block (q * 2 ^ 21 + block_word p e) ≡ leaf_with (q * 2 ^ 21) (leaf_access_xn p e)
    at q Ro e h = block_at _ (q * 2 ^ 21 + block_word Ro e) _ refl (omega arith) (omega arith) (omega arith) (omega arith)
    at q Rw true h = block_at _ (q * 2 ^ 21 + block_word Rw true) _ refl (omega arith) (omega arith) (omega arith) (omega arith)
    at q Rw false h = block_at _ (q * 2 ^ 21 + block_word Rw false) _ refl (omega arith) (omega arith) (omega arith) (omega arith)
    at q Rx e h = block_at _ (q * 2 ^ 21 + block_word Rx e) _ refl (omega arith) (omega arith) (omega arith) (omega arith)

device_block : (pa : ℕ) → Output 21 pa → decoded_block (pa + device_word) ≡ leaf_with pa read_write
device_block pa =
    from_blocks (λ (x : ℕ). decoded_block (x + device_word) ≡ leaf_with x read_write) pa
    (λ q h. block_at _ (q * 2 ^ 21 + device_word) _ refl (omega arith) (omega arith) (omega arith) (omega arith))

table_at : (pa d : ℕ) → descriptor_type d ≡ table_type → page_address d ≡ pa → decoded_table d ≡ Some pa
table_at pa d t e = simp (eq-eqb _ _ t, e)

table_decodes : (pa : ℕ) → Output 12 pa → decoded_table (pa + table_word) ≡ Some pa
table_decodes pa =
    from_pages (λ (x : ℕ). decoded_table (x + table_word) ≡ Some x) pa
    (λ q h. table_at _ (q * 2 ^ 12 + table_word) (omega arith) (omega arith))

device_at_lem :
    (pa d : ℕ) →
    descriptor_type d ≡ block_type →
    mem_attr d ≡ 0 → block_address d ≡ pa → xn d ≡ 1 → decoded_device d ≡ Some (record { pa = pa; xn = true })
device_at_lem pa d t m e x = simp (eq-eqb _ _ t, m, e, x)

device_decodes : (pa : ℕ) → Output 21 pa → decoded_device (pa + device_word) ≡ Some (record { pa = pa; xn = true })
device_decodes pa =
    from_blocks (λ (x : ℕ). decoded_device (x + device_word) ≡ Some (record { pa = x; xn = true })) pa
    (λ q h. device_at_lem _ (q * 2 ^ 21 + device_word) (omega arith) (omega arith) (omega arith) (omega arith))

pub emitted_decodes : EmittedDecodes
emitted_decodes =
    record {
      table = table_decodes;
      page = page_decodes;
      block = block_decodes;
      image = λ pa. block_decodes pa Rx false;
      device = device_decodes;
      device_leaf = device_block;
    }
