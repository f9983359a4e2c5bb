-- The nine words of an outcome: its number is small, and they are all.
use Rattle.std.specs.Prelude.{Ok, Err, Result}
use Rattle.refusal.specs.declared.Refusal.{Refusal}
use Prim.Native.Nat.{ℕ, suc, ◌<◌, ◌^◌}
use mathlib.Core.List.{List, [], ◌∷◌}
use mathlib.Core.Path.{◌≡◌, sym, ap, ◌∙◌}
use native.Mathlib.Omega.{arith}
use lib.ListN.{length, get_or, drop, drop_of_length-le}
use lib.Seq.{drop-cons}
use Rattle.refusal.specs.Outcome.{outcome_of, outcome_words}
use Rattle.refusal.specs.declared.Refusal.TheVariants.{ArenaLength, MapLength, MapCode, DeviceWindowUnaligned, GranuleNotEmitted}
use Rattle.refusal.specs.declared.Refusal.TheVariants.{WindowUnaligned, TableUnnameable, SuperFramesUncountable, RegionCrossesL1}
use Rattle.refusal.specs.declared.Refusal.TheVariants.{OutputPastLimit, RegionsCollide, WindowsOverlap, TablesEqual, SuperUnbacked}
use Rattle.refusal.specs.declared.Refusal.TheVariants.{UnsupportedSpan, OutOfRange, SpanConflict, BadTableEntry, BadImageBlock}
use Rattle.refusal.specs.declared.Refusal.TheVariants.{BadLeaf, SpuriousDescriptor, BadDeviceBlock, UnauthorizedMapping}
use Rattle.refusal.specs.declared.Refusal.TheVariants.{WriteEscalation, Inexact, StepPastLast, PageTooLong}

pub number_below : (v : Result Unit Refusal) → get_or (outcome_words (outcome_of v)) 0 0 < 2 ^ 32
number_below (Ok tt) = omega arith
number_below (Err ArenaLength) = omega arith
number_below (Err MapLength) = omega arith
number_below (Err (MapCode map position)) = omega arith
number_below (Err (DeviceWindowUnaligned base len)) = omega arith
number_below (Err (GranuleNotEmitted size)) = omega arith
number_below (Err (WindowUnaligned window base align)) = omega arith
number_below (Err (TableUnnameable table pa)) = omega arith
number_below (Err (SuperFramesUncountable count)) = omega arith
number_below (Err (RegionCrossesL1 index span)) = omega arith
number_below (Err (OutputPastLimit window base)) = omega arith
number_below (Err (RegionsCollide index)) = omega arith
number_below (Err WindowsOverlap) = omega arith
number_below (Err (TablesEqual first second)) = omega arith
number_below (Err (SuperUnbacked position)) = omega arith
number_below (Err (UnsupportedSpan parent)) = omega arith
number_below (Err (OutOfRange mfn capacity)) = omega arith
number_below (Err (SpanConflict mfn)) = omega arith
number_below (Err (BadTableEntry table index found expected)) = omega arith
number_below (Err (BadImageBlock found expected)) = omega arith
number_below (Err (BadLeaf mfn found expected)) = omega arith
number_below (Err (SpuriousDescriptor table index desc)) = omega arith
number_below (Err (BadDeviceBlock index desc)) = omega arith
number_below (Err (UnauthorizedMapping dom mfn owner perm)) = omega arith
number_below (Err (WriteEscalation dom mfn owner)) = omega arith
number_below (Err (Inexact dom mfn mapped expected)) = omega arith
number_below (Err StepPastLast) = omega arith
number_below (Err PageTooLong) = omega arith

pub nine :
    (w : List ℕ) →
    length w ≡ 9 →
    (get_or w 0 0 ∷ get_or w 1 0 ∷ get_or w 2 0 ∷ get_or w 3 0 ∷ get_or w 4 0 ∷ get_or w 5 0 ∷ get_or w 6 0 ∷ get_or w 7 0 ∷ get_or w 8 0 ∷ []) ≡ w
nine w h =
    sym (next 0 (omega arith) (next 1 (omega arith)
    (next 2 (omega arith) (next 3 (omega arith)
    (next 4 (omega arith) (next 5 (omega arith)
    (next 6 (omega arith) (next 7 (omega arith) (next 8 (omega arith) (drop_of_length-le w {i = 9} (omega (arith, h))))))))))))
  where
    next : (k : ℕ) {xs : List ℕ} → k < 9 → drop (suc k) w ≡ xs → drop k w ≡ get_or w k 0 ∷ xs
    next k lt e = drop-cons w k 0 (omega (arith, h, lt)) ∙ ap (λ (ys : List ℕ). get_or w k 0 ∷ ys) e
