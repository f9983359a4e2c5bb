-- Function 15: a regime.
use Rattle.granule.specs.declared.Granule.{Granule}
use Rattle.granule.specs.declared.StartLevel.{StartLevel}
use Rattle.sizes.specs.declared.PaSize.{PaSize}
use Rattle.std.specs.Prelude.{Option, Some, None, is_some, unwrap_or, ℕ, List, [], ◌∷◌, get_or}
use Rattle.fields.specs.Numbers.{eight, bit, low}
use Rattle.granule.specs.Granule.{granule_named}
use Rattle.granule.specs.StartLevel.{level_named}
use Rattle.probe_numbers.specs.Granules.{width_named}
use Rattle.regime.specs.Regime.{valid_regime, t0sz_of, table_align}
use Rattle.regime.specs.declared.Stage2Regime.{Stage2Regime}
use Rattle.sizes.specs.Codes.{size_named}
use Rattle.sizes.specs.declared.VmidBits.{VmidBits}
use Rattle.vtcr.specs.Vtcr.{vtcr_of}

-- a regime by its fields in the struct's order, then the width of a VMID
abbrev pub regime_from : List ℕ → Option Granule → Option StartLevel → Option PaSize → Option Stage2Regime
regime_from x (Some g) (Some l) (Some s) =
    Some
    (record {
      granule = g;
      ipa_bits = low (get_or x 1 0);
      start_level = l;
      pa_size = s;
      walk_shareability = get_or x 4 0;
      walk_inner = get_or x 5 0;
      walk_outer = get_or x 6 0;
    })
regime_from x (Some g) (Some l) None = None
regime_from x (Some g) None s = None
regime_from x None l s = None

unfoldable pub regime_by_codes : List ℕ → Option Stage2Regime
regime_by_codes x = regime_from x (granule_named (get_or x 0 0)) (level_named (get_or x 2 0)) (size_named (get_or x 3 0))

unfoldable pub numbers_of : Stage2Regime → VmidBits → List ℕ
numbers_of r b =
    1
    ∷ bit (valid_regime r)
    ∷ bit (is_some (t0sz_of r))
    ∷ unwrap_or (t0sz_of r) 0
    ∷ bit (is_some (table_align r))
    ∷ unwrap_or (table_align r) 0
    ∷ bit (is_some (vtcr_of r b))
    ∷ unwrap_or (vtcr_of r b) 0
    ∷ []

abbrev pub regime_numbers : Option Stage2Regime → Option VmidBits → List ℕ
regime_numbers (Some r) (Some b) = numbers_of r b
regime_numbers (Some r) None = eight []
regime_numbers None w = eight []

unfoldable pub regime_answer : List ℕ → List ℕ
regime_answer x = regime_numbers (regime_by_codes x) (width_named (get_or x 7 0))
