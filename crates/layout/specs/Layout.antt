-- The layout's fields as numbers, and its tables.
use Rattle.std.specs.Prelude.{Option, Some, None}
use Rattle.std.specs.Prelude.{ℕ, ◌+◌, ◌-◌, Bool, true, List, [], ◌∷◌, eqb, ltb, get_or}
use Rattle.fields.specs.Named.{pick}
use Rattle.fields.specs.Numbers.{nonzero}
use Rattle.layout.specs.declared.Layout.{Layout}
use Rattle.layout.specs.declared.Table.{Table}

-- where presence passes as a number, zero is no and all else yes
abbrev pub image_of : ℕ → ℕ → Option ℕ
image_of present pa = pick (eqb present 0) None (Some pa)

-- fields 01 to 10
abbrev pub field_count : ℕ
field_count = 0x10

-- the fields, and whether there is an image
abbrev pub number_count : ℕ
number_count = field_count + 1

-- fields 01 to 10, with whether there is an image just before the image
unfoldable pub layout_of : List ℕ → Layout
layout_of x =
    record {
      l1_pa = get_or x 0 0;
      l2_code_pa = get_or x 1 0;
      l2_data_pa = get_or x 2 0;
      l3_data_pa = get_or x 3 0;
      l2_sup_pa = get_or x 4 0;
      l2_dev_pa = get_or x 5 0;
      guest_image_pa = image_of (get_or x 6 0) (get_or x 7 0);
      data_ipa_base = get_or x 8 0;
      data_pa_base = get_or x 9 0;
      frame_size = get_or x 10 0;
      sup_ipa_base = get_or x 11 0;
      sup_pa_base = get_or x 12 0;
      device_base = get_or x 13 0;
      device_len = get_or x 14 0;
      sup_wx_exempt = nonzero (get_or x 15 0);
      sup_frames = get_or x 16 0;
    }

abbrev pub image_field : ℕ
image_field = 7

-- where field n, 1 to 10, stands in that list
abbrev pub field_at : ℕ → ℕ
field_at n = pick (ltb n image_field) (n - 1) n

abbrev pub table_if : ℕ → Bool → ℕ → Table
table_if n present pa = record { code = n; present = present; pa = pa }

abbrev pub table_at : ℕ → ℕ → Table
table_at n pa = table_if n true pa

-- l1, l2_code, l2_data, l3_data, l2_sup, l2_dev: tables 1 to 6
abbrev pub tables_of : Layout → List Table
tables_of l =
    table_at 1 l.l1_pa
    ∷ table_at 2 l.l2_code_pa
    ∷ table_at 3 l.l2_data_pa
    ∷ table_at 4 l.l3_data_pa
    ∷ table_at 5 l.l2_sup_pa
    ∷ table_at 6 l.l2_dev_pa
    ∷ []
