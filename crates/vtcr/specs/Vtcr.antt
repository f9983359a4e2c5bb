-- The VTCR_EL2 value of a regime, and the regime that a value names.
use Rattle.std.specs.Prelude.{Option, Some, None, ℕ, ◌-◌, eqb}
use Rattle.fields.specs.Named.{pick}
use Rattle.granule.specs.Granule.{tg0, granule_named}
use Rattle.granule.specs.StartLevel.{sl0, level_named}
use Rattle.granule.specs.declared.Granule.{Granule}
use Rattle.granule.specs.declared.StartLevel.{StartLevel}
use Rattle.regime.specs.Regime.{valid_regime}
use Rattle.regime.specs.declared.Stage2Regime.{Stage2Regime}
use Rattle.sizes.specs.Codes.{ps, size_named, vs, vmid_bits_named}
use Rattle.sizes.specs.declared.PaSize.{PaSize}
use Rattle.sizes.specs.declared.VmidBits.{VmidBits}
use Rattle.vtcr.specs.Fields.{vtcr_fields_of, vtcr_joined}
use Rattle.vtcr.specs.declared.VtcrFields.{VtcrFields}

-- the fields of a regime and a width: RES1 is one, and DS, HA and HD are zero
abbrev pub fields_for : Stage2Regime → VmidBits → VtcrFields
fields_for r b =
    record {
      t0sz = 64 - r.ipa_bits;
      sl0 = sl0 r.start_level;
      irgn0 = r.walk_inner;
      orgn0 = r.walk_outer;
      sh0 = r.walk_shareability;
      tg0 = tg0 r.granule;
      ps = ps r.pa_size;
      vs = vs b;
      res1 = 1;
      ds = 0;
    }

abbrev pub vtcr_of : Stage2Regime → VmidBits → Option ℕ
vtcr_of r b = pick (valid_regime r) (Some (vtcr_joined (fields_for r b))) None

-- the regime of these fields, by the granule, level and size that they name
abbrev pub regime_with : VtcrFields → Granule → StartLevel → PaSize → Stage2Regime
regime_with f g l s =
    record {
      granule = g;
      ipa_bits = 64 - f.t0sz;
      start_level = l;
      pa_size = s;
      walk_shareability = f.sh0;
      walk_inner = f.irgn0;
      walk_outer = f.orgn0;
    }

-- a reserved granule, level or size names no regime, nor do fields that name an invalid one
abbrev pub regime_of : VtcrFields → Option Granule → Option StartLevel → Option PaSize → Option (Stage2Regime × VmidBits)
regime_of f (Some g) (Some l) (Some s) =
    pick (valid_regime (regime_with f g l s)) (Some (regime_with f g l s, vmid_bits_named f.vs)) None
regime_of f (Some g) (Some l) None = None
regime_of f (Some g) None s = None
regime_of f None l s = None

unfoldable pub regime_named : VtcrFields → Option (Stage2Regime × VmidBits)
regime_named f = regime_of f (granule_named f.tg0) (level_named f.sl0) (size_named f.ps)

-- RES1 must be one and DS zero
abbrev pub decoded_fields : VtcrFields → Option (Stage2Regime × VmidBits)
decoded_fields f = pick (eqb f.res1 1) (pick (eqb f.ds 0) (regime_named f) None) None

abbrev pub decoded_vtcr : ℕ → Option (Stage2Regime × VmidBits)
decoded_vtcr v = decoded_fields (vtcr_fields_of v)
