-- The number and the values of each case of `Refusal`, by document 01's table; from 27 on, by the requests.
use Rattle.std.specs.Prelude.{Some, None, Option, Result, Ok, Err}
use Rattle.decode.specs.declared.Decoded.{Decoded}
use Rattle.std.specs.Prelude.{ℕ, Bool, List, [], ◌∷◌, ◌++◌}
use Rattle.fields.specs.Numbers.{eight, bit}
use Rattle.perm.specs.Perm.{perm_code, entry_code}
use Rattle.refusal.specs.Table.{Row, row, Outcome, accepted, refused, given}
use Rattle.refusal.specs.declared.Refusal.{Refusal}
use Rattle.refusal.specs.declared.Refusal.TheVariants.{ArenaLength, MapLength, MapCode, DeviceWindowUnaligned, GranuleNotEmitted}
use Rattle.refusal.specs.declared.Refusal.TheVariants.{WindowUnaligned, TableUnnameable, SuperFramesUncountable, RegionCrossesL1}
use Rattle.refusal.specs.declared.Refusal.TheVariants.{OutputPastLimit, RegionsCollide, WindowsOverlap, TablesEqual, SuperUnbacked}
use Rattle.refusal.specs.declared.Refusal.TheVariants.{UnsupportedSpan, OutOfRange, SpanConflict, BadTableEntry, BadImageBlock}
use Rattle.refusal.specs.declared.Refusal.TheVariants.{BadLeaf, SpuriousDescriptor, BadDeviceBlock, UnauthorizedMapping}
use Rattle.refusal.specs.declared.Refusal.TheVariants.{WriteEscalation, Inexact, StepPastLast, PageTooLong}

-- what may be none, as a refusal carries it: 1 and its values, or zeros. A table is told by its address
abbrev pub table_values : Option ℕ → List ℕ
table_values (Some pa) = 1 ∷ pa ∷ []
table_values None = 0 ∷ 0 ∷ []

-- a leaf that is found: its address, access (1 Ro, 2 Rw) and execute bit, whatever else a decoder tells
abbrev pub leaf_values : Option Decoded → List ℕ
leaf_values (Some a) = 1 ∷ a.pa ∷ perm_code a.perm ∷ bit a.xn ∷ []
leaf_values None = 0 ∷ 0 ∷ 0 ∷ 0 ∷ []

-- one that is wanted: its address and access
abbrev pub wanted_values : Option Decoded → List ℕ
wanted_values (Some a) = 1 ∷ a.pa ∷ perm_code a.perm ∷ []
wanted_values None = 0 ∷ 0 ∷ 0 ∷ []

-- an owner: the domain's number
abbrev pub owner_values : Option ℕ → List ℕ
owner_values (Some owner) = 1 ∷ owner ∷ []
owner_values None = 0 ∷ 0 ∷ []

abbrev pub row_of : Refusal → Row
row_of ArenaLength = row 1 []
row_of MapLength = row 2 []
row_of (MapCode map position) = row 3 (map ∷ position ∷ [])
row_of (DeviceWindowUnaligned base len) = row 4 (base ∷ len ∷ [])
row_of (GranuleNotEmitted size) = row 5 (size ∷ [])
row_of (WindowUnaligned window base align) = row 6 (window ∷ base ∷ align ∷ [])
row_of (TableUnnameable table pa) = row 7 (table ∷ pa ∷ [])
row_of (SuperFramesUncountable count) = row 8 (count ∷ [])
row_of (RegionCrossesL1 index span) = row 9 (index ∷ span ∷ [])
row_of (OutputPastLimit window base) = row 10 (window ∷ base ∷ [])
row_of (RegionsCollide index) = row 11 (index ∷ [])
row_of WindowsOverlap = row 12 []
row_of (TablesEqual first second) = row 13 (first ∷ second ∷ [])
row_of (SuperUnbacked position) = row 14 (position ∷ [])
row_of (UnsupportedSpan parent) = row 15 (parent ∷ [])
row_of (OutOfRange mfn capacity) = row 16 (mfn ∷ capacity ∷ [])
row_of (SpanConflict mfn) = row 17 (mfn ∷ [])
row_of (BadTableEntry table index found expected) = row 18 (table ∷ index ∷ (table_values found ++ (expected ∷ [])))
row_of (BadImageBlock found expected) = row 19 (leaf_values found ++ (expected ∷ []))
row_of (BadLeaf mfn found expected) = row 20 (mfn ∷ (leaf_values found ++ wanted_values expected))
row_of (SpuriousDescriptor table index desc) = row 21 (table ∷ index ∷ desc ∷ [])
row_of (BadDeviceBlock index desc) = row 22 (index ∷ desc ∷ [])
row_of (UnauthorizedMapping dom mfn owner perm) = row 23 (dom ∷ mfn ∷ (owner_values owner ++ (perm_code perm ∷ [])))
row_of (WriteEscalation dom mfn owner) = row 24 (dom ∷ mfn ∷ owner ∷ [])
row_of (Inexact dom mfn mapped expected) = row 25 (dom ∷ mfn ∷ entry_code mapped ∷ entry_code expected ∷ [])
row_of StepPastLast = row 26 []
row_of PageTooLong = row 27 []

-- the row of a refusal, where its test holds
abbrev pub refuse : Bool → Refusal → List Row
refuse t r = given t (row_of r ∷ [])

abbrev pub outcome_of : Result Unit Refusal → Outcome
outcome_of (Ok tt) = accepted
outcome_of (Err r) = refused (row_of r)

-- an outcome as nine numbers: the row's, 0 where accepted, then eight for the values, zeros after them
abbrev pub row_words : Row → List ℕ
row_words r = r.number ∷ eight r.carried

abbrev pub outcome_words : Outcome → List ℕ
outcome_words accepted = 0 ∷ eight []
outcome_words (refused r) = row_words r
