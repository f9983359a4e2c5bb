-- Fields that fit come back: none runs into the next.
use mathlib.Core.Path.{◌≡◌}
use native.Mathlib.Omega.{arith}
use Rattle.fields.specs.Bits.{bits}
use Rattle.vtcr.specs.Fields.{vtcr_fields_of, vtcr_joined, InRange, FieldsBack}
use Rattle.vtcr.specs.declared.VtcrFields.{VtcrFields}

module _ (f : VtcrFields) (h : InRange f) where
  t0sz_back : bits 5 0 (vtcr_joined f) ≡ f.t0sz
  t0sz_back = omega arith

  sl0_back : bits 7 6 (vtcr_joined f) ≡ f.sl0
  sl0_back = omega arith

  irgn0_back : bits 9 8 (vtcr_joined f) ≡ f.irgn0
  irgn0_back = omega arith

  orgn0_back : bits 11 10 (vtcr_joined f) ≡ f.orgn0
  orgn0_back = omega arith

  sh0_back : bits 13 12 (vtcr_joined f) ≡ f.sh0
  sh0_back = omega arith

  tg0_back : bits 15 14 (vtcr_joined f) ≡ f.tg0
  tg0_back = omega arith

  ps_back : bits 18 16 (vtcr_joined f) ≡ f.ps
  ps_back = omega arith

  vs_back : bits 19 19 (vtcr_joined f) ≡ f.vs
  vs_back = omega arith

  res1_back : bits 31 31 (vtcr_joined f) ≡ f.res1
  res1_back = omega arith

  ds_back : bits 32 32 (vtcr_joined f) ≡ f.ds
  ds_back = omega arith

  all_back : vtcr_fields_of (vtcr_joined f) ≡ f
  all_back = simp (t0sz_back, sl0_back, irgn0_back, orgn0_back, sh0_back, tg0_back, ps_back, vs_back, res1_back, ds_back)

pub fields_back : FieldsBack
fields_back = all_back
