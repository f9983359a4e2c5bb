-- What is answered where there may be nothing.
use Rattle.std.specs.Option.{option_map_or}
use Rattle.std.specs.Prelude.{Option, ℕ, List, []}
use Rattle.fields.specs.Numbers.{eight}

-- eight numbers of what there is, zeros where there is nothing
abbrev pub or_zeros : {A : Type 0} → (A → List ℕ) → Option A → List ℕ
or_zeros numbers o = eight (option_map_or numbers o [])
