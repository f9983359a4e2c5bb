-- Decoding gives back what was encoded: no field runs into the next, so each is read as it was written.
use Rattle.std.specs.Prelude.{Some}
use Prim.Native.Nat.{◌-◌}
use mathlib.Core.Bool.{true}
use mathlib.Core.Path.{◌≡◌, refl, ◌∙◌, ap}
use native.Mathlib.Omega.{arith}
use Rattle.granule.specs.Granule.{tg0, granule_named}
use Rattle.granule.specs.StartLevel.{sl0, level_named}
use Rattle.granule.specs.StartLevel.{span}
use Rattle.granule.specs.declared.Granule.TheVariants.{K4, K16, K64}
use Rattle.granule.specs.declared.Granule.{Granule}
use Rattle.granule.specs.declared.StartLevel.TheVariants.{L0, L1, L2, L3}
use Rattle.granule.specs.declared.StartLevel.{StartLevel}
use Rattle.regime.specs.Regime.{below, input_fits, valid_regime}
use Rattle.regime.specs.declared.Stage2Regime.{Stage2Regime}
use Rattle.sizes.specs.Codes.{ps, size_named, vs, vmid_bits_named}
use Rattle.sizes.specs.declared.PaSize.TheVariants.{B32, B36, B40, B42, B44, B48, B52}
use Rattle.sizes.specs.declared.PaSize.{PaSize}
use Rattle.sizes.specs.declared.VmidBits.TheVariants.{B8, B16}
use Rattle.sizes.specs.declared.VmidBits.{VmidBits}
use Rattle.vtcr.specs.Fields.{vtcr_joined}
use Rattle.vtcr.specs.RoundTrip.{VtcrRoundTrip, BaleenValue}
use Rattle.vtcr.specs.Vtcr.{fields_for, regime_with, regime_named, decoded_fields}
use Rattle.vtcr.proofs.FieldsBack.{fields_back}
use Rattle.vtcr.proofs.Valid.{facts, in_range}

-- the code of a parameter names it

granule_named_lem : (g : Granule) → granule_named (tg0 g) ≡ Some g
granule_named_lem K4 = refl
granule_named_lem K16 = refl
granule_named_lem K64 = refl

level_named_lem : (l : StartLevel) → level_named (sl0 l) ≡ Some l
level_named_lem L0 = refl
level_named_lem L1 = refl
level_named_lem L2 = refl
level_named_lem L3 = refl

size_named_lem : (s : PaSize) → size_named (ps s) ≡ Some s
size_named_lem B32 = refl
size_named_lem B36 = refl
size_named_lem B40 = refl
size_named_lem B42 = refl
size_named_lem B44 = refl
size_named_lem B48 = refl
size_named_lem B52 = refl

vmid_bits_named_lem : (b : VmidBits) → vmid_bits_named (vs b) ≡ b
vmid_bits_named_lem B8 = refl
vmid_bits_named_lem B16 = refl

-- a valid regime, read back from its own fields
named_back : (r : Stage2Regime) (b : VmidBits) → valid_regime r ≡ true → regime_named (fields_for r b) ≡ Some (r, b)
unfolding regime_named
named_back r b e =
    let v = facts r e in
    let i : 64 - (64 - r.ipa_bits) ≡ r.ipa_bits = omega arith in
    let k : regime_with (fields_for r b) r.granule r.start_level r.pa_size ≡ r = simp i in
    rw (granule_named_lem r.granule, level_named_lem r.start_level, size_named_lem r.pa_size, k, e, vmid_bits_named_lem b)

pub vtcr_round_trip : VtcrRoundTrip
vtcr_round_trip r b e =
    let f = fields_for r b in
    (vtcr_joined f, rw e, ap decoded_fields (fields_back f (in_range r b (facts r e))) ∙ named_back r b e)

pub baleen_value : BaleenValue
unfolding valid_regime input_fits span below
baleen_value = refl
