-- Emitted leaf words, as the walk and as the manual read them.
use Prim.Native.Nat.{ℕ, ◌+◌}
use mathlib.Core.Bool.{Bool, true, false, not}
use mathlib.Core.Path.{◌≡◌, refl}
use native.Mathlib.Omega.{arith}
use lib.Dec.{eqb}
use Rattle.decode.proofs.Emitted.{emitted_decodes}
use Rattle.decode.specs.Decoded.{decoded_page, decoded_block}
use Rattle.decode.specs.Emitted.{Output, leaf_with}
use Rattle.desc.specs.Descriptor.{descriptor_type, block_type, page_type, af, page_address, block_address}
use Rattle.desc.specs.WordFields.{read_write}
use Rattle.desc.specs.Words.{page_word, block_word, device_word, leaf_access_xn}
use Rattle.desc.specs.declared.AccessXn.{AccessXn}
use Rattle.fields.specs.Bits.{bits}
use Rattle.fields.specs.Named.{pick}
use Rattle.fields.specs.Numbers.{bit}
use Rattle.manual.specs.Translation.{el0, el1, Access, reads, writes, executes, byte, fault, leaf, allowed}
use Rattle.perm.specs.Perm.{perm_writes}
use Rattle.perm.specs.declared.Perm.TheVariants.{Ro, Rw, Rx}
use Rattle.perm.specs.declared.Perm.{Perm}
use Rattle.window_reach.specs.Granted.{reach_at}

-- the fields that a leaf's access stands for; bit 53 is clear
pub record Fields (d : ℕ) (a : AccessXn) : Type 0 where
  pub flag : af d ≡ 1
  pub can_read : bits 6 6 d ≡ 1
  pub can_write : bits 7 7 d ≡ bit (perm_writes a.access)
  pub never : bits 54 54 d ≡ bit a.xn
  pub low : bits 53 53 d ≡ 0

abbrev Allows : ℕ → AccessXn → Type 0
Allows d a = (xnx : Bool) (c : Access) (out : ℕ) → leaf xnx c out d ≡ allowed c (reach_at out a)

written : (b : Bool) (out : ℕ) → pick (eqb (bit b) 1) (byte out) fault ≡ pick b (byte out) fault
written true out = refl
written false out = refl

executed : (b : Bool) (out : ℕ) → pick (eqb (bit b) 0) (byte out) fault ≡ pick (not b) (byte out) fault
executed true out = refl
executed false out = refl

allows : (d : ℕ) (a : AccessXn) → Fields d a → Allows d a
allows d a f xnx reads out = rw (f.flag, f.can_read)
allows d a f xnx writes out = rw (f.flag, f.can_write) (written (perm_writes a.access) out)
allows d a f false (executes el) out = rw (f.flag, f.never) (executed a.xn out)
allows d a f true (executes el0) out = rw (f.flag, f.never) (executed a.xn out)
allows d a f true (executes el1) out = rw (f.flag, f.never, f.low) (executed a.xn out)

-- a word that is a page, or a block, of this output and access
pub record PageLeaf (d pa : ℕ) (a : AccessXn) : Type 0 where
  pub type : descriptor_type d ≡ page_type
  pub address : page_address d ≡ pa
  pub decodes : decoded_page d ≡ leaf_with pa a
  pub allows : Allows d a

pub record BlockLeaf (d pa : ℕ) (a : AccessXn) : Type 0 where
  pub type : descriptor_type d ≡ block_type
  pub address : block_address d ≡ pa
  pub decodes : decoded_block d ≡ leaf_with pa a
  pub allows : Allows d a

page_fields : (pa : ℕ) (p : Perm) → Output 12 pa → Fields (pa + page_word p) (leaf_access_xn p false)
page_fields pa Ro o = record { flag = omega arith; can_read = omega arith; can_write = omega arith; never = omega arith; low = omega arith }
page_fields pa Rw o = record { flag = omega arith; can_read = omega arith; can_write = omega arith; never = omega arith; low = omega arith }
page_fields pa Rx o = record { flag = omega arith; can_read = omega arith; can_write = omega arith; never = omega arith; low = omega arith }

page_type_lem : (pa : ℕ) (p : Perm) → Output 12 pa → descriptor_type (pa + page_word p) ≡ page_type
page_type_lem pa Ro o = omega arith
page_type_lem pa Rw o = omega arith
page_type_lem pa Rx o = omega arith

page_address_lem : (pa : ℕ) (p : Perm) → Output 12 pa → page_address (pa + page_word p) ≡ pa
page_address_lem pa Ro o = omega arith
page_address_lem pa Rw o = omega arith
page_address_lem pa Rx o = omega arith

pub page_leaf : (pa : ℕ) (p : Perm) → Output 12 pa → PageLeaf (pa + page_word p) pa (leaf_access_xn p false)
page_leaf pa p o =
    record {
      type = page_type_lem pa p o;
      address = page_address_lem pa p o;
      decodes = emitted_decodes.page pa p o;
      allows = allows _ _ (page_fields pa p o);
    }

block_fields : (pa : ℕ) (p : Perm) (e : Bool) → Output 21 pa → Fields (pa + block_word p e) (leaf_access_xn p e)
block_fields pa Ro e o = record
    { flag = omega arith; can_read = omega arith; can_write = omega arith; never = omega arith; low = omega arith }
block_fields pa Rw true o = record
    { flag = omega arith; can_read = omega arith; can_write = omega arith; never = omega arith; low = omega arith }
block_fields pa Rw false o = record
    { flag = omega arith; can_read = omega arith; can_write = omega arith; never = omega arith; low = omega arith }
block_fields pa Rx e o = record
    { flag = omega arith; can_read = omega arith; can_write = omega arith; never = omega arith; low = omega arith }

block_type_lem : (pa : ℕ) (p : Perm) (e : Bool) → Output 21 pa → descriptor_type (pa + block_word p e) ≡ block_type
block_type_lem pa Ro e o = omega arith
block_type_lem pa Rw true o = omega arith
block_type_lem pa Rw false o = omega arith
block_type_lem pa Rx e o = omega arith

block_address_lem : (pa : ℕ) (p : Perm) (e : Bool) → Output 21 pa → block_address (pa + block_word p e) ≡ pa
block_address_lem pa Ro e o = omega arith
block_address_lem pa Rw true o = omega arith
block_address_lem pa Rw false o = omega arith
block_address_lem pa Rx e o = omega arith

pub block_leaf : (pa : ℕ) (p : Perm) (e : Bool) → Output 21 pa → BlockLeaf (pa + block_word p e) pa (leaf_access_xn p e)
block_leaf pa p e o =
    record {
      type = block_type_lem pa p e o;
      address = block_address_lem pa p e o;
      decodes = emitted_decodes.block pa p e o;
      allows = allows _ _ (block_fields pa p e o);
    }

device_fields : (pa : ℕ) → Output 21 pa → Fields (pa + device_word) read_write
device_fields pa o = record { flag = omega arith; can_read = omega arith; can_write = omega arith; never = omega arith; low = omega arith }

pub device_leaf : (pa : ℕ) → Output 21 pa → BlockLeaf (pa + device_word) pa read_write
device_leaf pa o =
    record {
      type = omega arith;
      address = omega arith;
      decodes = emitted_decodes.device_leaf pa o;
      allows = allows _ _ (device_fields pa o);
    }
