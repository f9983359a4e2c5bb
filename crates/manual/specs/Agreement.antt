-- Which words the Rust's walk and the manual read alike, and that they then agree on every address.
use Rattle.std.specs.Prelude.{ℕ, zero, suc, ◌+◌, Bool, true, false, not, ◌&&◌, ◌||◌, List, [], ◌∷◌, ◌≡◌, eqb}
use Rattle.decode.specs.Decoded.{leaf_at}
use Rattle.desc.specs.Descriptor.{descriptor_type, block_type, table_type, page_type, af, xn, page_address}
use Rattle.descent.specs.Descent.{Words}
use Rattle.fields.specs.Bits.{bits}
use Rattle.fields.specs.Named.{pick}
use Rattle.manual.specs.Translation.{Access, Machine, leaf, translation, allowed}
use Rattle.walk.specs.Walk.{leaf_reach, walk_of}

-- bit 53 is not read, or clear
abbrev pub no_xnx : Bool → ℕ → Bool
no_xnx xnx d = not xnx || eqb (bits 53 53 d) 0

-- a leaf that both read alike. Where it can be read, the access flag is set; where not, the flag is clear, or nothing is permitted:
-- no writing and no execution
abbrev pub alike : Bool → ℕ → Bool
alike xnx d =
    pick (eqb (bits 6 6 d) 1) (eqb (af d) 1 && no_xnx xnx d)
    (not (eqb (af d) 1) || eqb (bits 7 7 d) 0 && eqb (xn d) 1 && no_xnx xnx d)

-- what the walk reads of a leaf word, by the address in it and the offset, lets exactly the accesses that the manual lets
abbrev pub Agrees : Bool → ℕ → Type 0
Agrees xnx d = (a : Access) (pa offset : ℕ) → leaf xnx a (pa + offset) d ≡ allowed a (leaf_reach offset (leaf_at pa d))

-- the condition is exact
pub record LeavesAgree : Type 0 where
  pub enough : (xnx : Bool) (d : ℕ) → alike xnx d ≡ true → Agrees xnx d
  pub needed : (xnx : Bool) (d : ℕ) → Agrees xnx d → alike xnx d ≡ true

-- one of the tables
abbrev pub among : List ℕ → ℕ → Bool
among [] named = false
among (t ∷ ts) named = eqb t named || among ts named

-- a word with so many levels below: a table word names one of the tables; a leaf is read alike; level 1 has no block
abbrev pub ordinary : Bool → List ℕ → ℕ → ℕ → Bool
ordinary xnx tables zero d = pick (eqb (descriptor_type d) page_type) (alike xnx d) true
ordinary xnx tables (suc zero) d =
    pick (eqb (descriptor_type d) table_type) (among tables (page_address d))
    (pick (eqb (descriptor_type d) block_type) (alike xnx d) true)
ordinary xnx tables (suc (suc left)) d =
    pick (eqb (descriptor_type d) table_type) (among tables (page_address d)) (not (eqb (descriptor_type d) block_type))

-- over such words the walk lets at every address what the manual lets, whatever stands outside the arena
abbrev pub WalksAgree : Type 0
WalksAgree =
    (m : Machine) (l1 : ℕ) (others : List ℕ) (ws : ℕ → Words) →
    ((left i : ℕ) → ordinary m.xnx (l1 ∷ others) left (ws left i) ≡ true) →
    (a : Access) (x : ℕ) → translation m (l1 ∷ others) ws a x ≡ allowed a (walk_of (l1 ∷ others) ws x)
