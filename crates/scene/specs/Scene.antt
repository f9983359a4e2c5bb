-- A scene: a layout's numbers and both maps, as its lines have set them.
use Rattle.std.specs.Prelude.{ℕ, ◌-◌, List, eqb, set, replicate}
use Rattle.fields.specs.Named.{pick}
use Rattle.layout.specs.Layout.{number_count, image_field, field_at}
use Rattle.layout.specs.Size.{entries}
use Rattle.scene_line.specs.declared.Line.{Line}
use Rattle.scene_line.specs.declared.Line.TheVariants.{Field, Base, Super}

pub record Scene : Type 0 where
  pub numbers : List ℕ
  pub base : List ℕ
  pub sup : List ℕ

abbrev pub scene : List ℕ → List ℕ → List ℕ → Scene
scene numbers base sup = record { numbers = numbers; base = base; sup = sup }

-- before any line: unset fields are zero, an unset image absent
abbrev pub unset : Scene
unset = scene (replicate number_count 0) (replicate entries 0) (replicate entries 0)

-- whether there is an image stands just before it
unfoldable pub with_field : List ℕ → ℕ → ℕ → List ℕ
with_field numbers n value =
    set (pick (eqb n image_field) (set numbers (field_at image_field - 1) 1) numbers) (field_at n) value

-- a later line replaces an earlier one
abbrev pub applied : Scene → Line → Scene
applied s (Field n value) = scene (with_field s.numbers n value) s.base s.sup
applied s (Base position code) = scene s.numbers (set s.base position code) s.sup
applied s (Super position code) = scene s.numbers s.base (set s.sup position code)
