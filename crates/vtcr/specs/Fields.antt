-- VTCR_EL2, by its fields in DDI 0487.
use Rattle.std.specs.Prelude.{ℕ, ◌+◌, ◌*◌, ◌%◌, ◌^◌, ◌<◌, ◌≡◌}
use Rattle.fields.specs.Bits.{bits}
use Rattle.vtcr.specs.declared.VtcrFields.{VtcrFields}

-- the fields of a value: bit 31 is RES1, and DS selects another descriptor format
abbrev pub vtcr_fields_of : ℕ → VtcrFields
vtcr_fields_of v =
    record {
      t0sz = bits 5 0 v;
      sl0 = bits 7 6 v;
      irgn0 = bits 9 8 v;
      orgn0 = bits 11 10 v;
      sh0 = bits 13 12 v;
      tg0 = bits 15 14 v;
      ps = bits 18 16 v;
      vs = bits 19 19 v;
      res1 = bits 31 31 v;
      ds = bits 32 32 v;
    }

-- the value that has these fields, each cut to its place, and no other bit
abbrev pub vtcr_joined : VtcrFields → ℕ
vtcr_joined f =
    f.t0sz % 2 ^ 6
    + f.sl0 % 2 ^ 2 * 2 ^ 6
    + f.irgn0 % 2 ^ 2 * 2 ^ 8
    + f.orgn0 % 2 ^ 2 * 2 ^ 10
    + f.sh0 % 2 ^ 2 * 2 ^ 12
    + f.tg0 % 2 ^ 2 * 2 ^ 14
    + f.ps % 2 ^ 3 * 2 ^ 16
    + f.vs % 2 * 2 ^ 19
    + f.res1 % 2 * 2 ^ 31
    + f.ds % 2 * 2 ^ 32

-- no field has more bits than its place
pub record InRange (f : VtcrFields) : Type 0 where
  pub t0sz : f.t0sz < 2 ^ 6
  pub sl0 : f.sl0 < 2 ^ 2
  pub irgn0 : f.irgn0 < 2 ^ 2
  pub orgn0 : f.orgn0 < 2 ^ 2
  pub sh0 : f.sh0 < 2 ^ 2
  pub tg0 : f.tg0 < 2 ^ 2
  pub ps : f.ps < 2 ^ 3
  pub vs : f.vs < 2
  pub res1 : f.res1 < 2
  pub ds : f.ds < 2

-- fields that fit come back
abbrev pub FieldsBack : Type 0
FieldsBack = (f : VtcrFields) → InRange f → vtcr_fields_of (vtcr_joined f) ≡ f
