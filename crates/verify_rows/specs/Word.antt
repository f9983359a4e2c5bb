-- Rows 18 to 22 of document 01's table, of one word: what its decoder finds there, against what is wanted.
use Rattle.std.specs.Prelude.{Some, None, Option}
use Rattle.decode.specs.declared.DecodedDevice.{DecodedDevice}
use Rattle.decode.specs.declared.Decoded.{Decoded}
use Rattle.std.specs.Prelude.{ℕ, Bool, true, false, not, ◌&&◌, List, [], ◌∷◌, eqb}
use Rattle.decode.specs.Decoded.{decoded_page, decoded_block, decoded_table, decoded_device}
use Rattle.decode.specs.Emitted.{leaf_with}
use Rattle.desc.specs.Descriptor.{page_address, block_address}
use Rattle.desc.specs.WordFields.{read_execute}
use Rattle.desc.specs.Words.{leaf_access_xn}
use Rattle.fields.specs.Named.{named}
use Rattle.fields.specs.Numbers.{bit}
use Rattle.perm.specs.Perm.{perm_code}
use Rattle.perm.specs.declared.Perm.TheVariants.{Ro, Rw, Rx}
use Rattle.refusal.specs.Outcome.{row_of, refuse}
use Rattle.refusal.specs.Table.{Row, row, given}
use Rattle.refusal.specs.declared.Refusal.TheVariants.{BadTableEntry, BadImageBlock, BadLeaf}

-- what verification reads of a leaf: page or block
abbrev pub read_page : ℕ → Option Decoded
read_page d = decoded_page d

abbrev pub read_block : ℕ → Option Decoded
read_block d = decoded_block d

-- it names the table at pa
abbrev pub same_table : Option ℕ → ℕ → Bool
same_table (Some a) pa = eqb a pa
same_table None pa = false

-- leaves are compared by address, access and execute bit alone
abbrev pub same_leaf : Option Decoded → Option Decoded → Bool
same_leaf (Some a) (Some b) = eqb a.pa b.pa && eqb (perm_code a.perm) (perm_code b.perm) && eqb (bit a.xn) (bit b.xn)
same_leaf (Some a) None = false
same_leaf None (Some b) = false
same_leaf None None = true

-- device blocks by address and execute bit: a decoded one has no access
abbrev pub same_block : Option DecodedDevice → Option DecodedDevice → Bool
same_block (Some a) (Some b) = eqb a.pa b.pa && eqb (bit a.xn) (bit b.xn)
same_block (Some a) None = false
same_block None (Some b) = false
same_block None None = true

-- row 18: word d, at an index of a table, does not name the table at pa
unfoldable pub row18 : ℕ → ℕ → ℕ → ℕ → List Row
row18 t j d pa =
    let found = decoded_table d in
    refuse (not (same_table found (page_address pa))) (BadTableEntry t j found (page_address pa))

-- row 19: word d is not the image's block, read-only and executable at its address
unfoldable pub row19 : ℕ → ℕ → List Row
row19 d pa =
    let found = read_block d in
    refuse (not (same_leaf found (leaf_with (block_address pa) read_execute))) (BadImageBlock found (block_address pa))

-- row 21: a word where none is wanted
abbrev pub spurious : ℕ → ℕ → ℕ → Row
spurious t j d = row 21 (t ∷ j ∷ d ∷ [])

-- the leaf that an entry of a map wants at an address: an unmapped one wants nothing
abbrev pub wanted_leaf : ℕ → ℕ → Bool → Option Decoded
wanted_leaf entry pa exempt = named perm_code (Ro ∷ Rw ∷ Rx ∷ []) (λ p. leaf_with pa (leaf_access_xn p exempt)) None entry

-- row 20: the leaf of frame m; 21 where nothing is wanted
abbrev pub bad_leaf : ℕ → ℕ → ℕ → ℕ → Option Decoded → Option Decoded → Row
bad_leaf t j d m found (Some want) = row_of (BadLeaf m found (Some want))
bad_leaf t j d m found None = spurious t j d

-- what is found in word d differs from what is wanted for frame m
unfoldable pub leaf_row : ℕ → ℕ → ℕ → ℕ → Option Decoded → Option Decoded → List Row
leaf_row t j d m found want = given (not (same_leaf found want)) (bad_leaf t j d m found want ∷ [])

-- row 22: a device's block; 21 where nothing is wanted
abbrev pub bad_block : ℕ → ℕ → ℕ → Option DecodedDevice → Row
bad_block t j d (Some want) = row 22 (j ∷ d ∷ [])
bad_block t j d None = spurious t j d

-- what is found in word d differs from the block that is wanted
unfoldable pub block_row : ℕ → ℕ → ℕ → Option DecodedDevice → List Row
block_row t j d want = given (not (same_block (decoded_device d) want)) (bad_block t j d want ∷ [])
