-- What a valid regime's test says, as facts, and that its fields fit VTCR_EL2.
use Prim.Native.Nat.{◌≤◌, ◌<◌}
use mathlib.Core.Bool.{true}
use mathlib.Core.Path.{◌≡◌}
use native.Mathlib.Omega.{arith}
use Rattle.std.proofs.lemmas.Bool.Decides.{nat_tests}
use Rattle.granule.proofs.Bounds.{page_range, sl0_range, tg0_range}
use Rattle.granule.specs.Granule.{page_bits}
use Rattle.regime.specs.Regime.{input_fits, valid_regime}
use Rattle.regime.specs.declared.Stage2Regime.{Stage2Regime}
use Rattle.sizes.proofs.Bounds.{ps_range, vs_range}
use Rattle.sizes.specs.declared.VmidBits.{VmidBits}
use Rattle.vtcr.specs.Fields.{InRange}
use Rattle.vtcr.specs.Vtcr.{fields_for}

pub record Valid (r : Stage2Regime) : Type 0 where
  pub wide : r.ipa_bits ≤ 48
  pub page : page_bits r.granule < r.ipa_bits
  pub shareability : r.walk_shareability ≤ 3
  pub inner : r.walk_inner ≤ 3
  pub outer : r.walk_outer ≤ 3

pub facts : (r : Stage2Regime) → valid_regime r ≡ true → Valid r
unfolding valid_regime input_fits
facts r e =
    record {
      wide = grind (arith, nat_tests);
      page = grind (arith, nat_tests);
      shareability = grind (arith, nat_tests);
      inner = grind (arith, nat_tests);
      outer = grind (arith, nat_tests);
    }

pub wide : (r : Stage2Regime) → valid_regime r ≡ true → r.ipa_bits ≤ 48
wide r e = (facts r e).wide

-- the fields of a valid regime fit their places
pub in_range : (r : Stage2Regime) (b : VmidBits) → Valid r → InRange (fields_for r b)
in_range r b v =
    let g = page_range r.granule in
    record {
      t0sz = omega arith;
      sl0 = sl0_range r.start_level;
      irgn0 = omega arith;
      orgn0 = omega arith;
      sh0 = omega arith;
      tg0 = tg0_range r.granule;
      ps = ps_range r.pa_size;
      vs = vs_range b;
      res1 = omega arith;
      ds = omega arith;
    }
