-- Function 0: the owner, kind and span of a frame.
use Rattle.std.specs.Option.{option_map_or}
use Rattle.std.specs.Prelude.{unwrap_or, ℕ, List, [], ◌∷◌, get_or, take}
use Rattle.fields.specs.Numbers.{eight, low}
use Rattle.p2m.specs.Frame.{span_code, span_of_kind, owner_of, kind_at}

-- three rows of owner and kind, how many of them there are, and a frame
abbrev pub frame_row : ℕ → ℕ → List ℕ
frame_row owner kind = low owner ∷ low kind ∷ []

abbrev pub rows_of : List ℕ → List (List ℕ)
rows_of x = frame_row (get_or x 0 0) (get_or x 1 0) ∷ frame_row (get_or x 2 0) (get_or x 3 0) ∷ frame_row (get_or x 4 0) (get_or x 5 0) ∷ []

-- an owner is a domain's number, or the first that is nobody's
abbrev pub frame_numbers : List (List ℕ) → ℕ → List ℕ
frame_numbers frames m =
    eight (unwrap_or (owner_of frames m) 65536 ∷ kind_at frames m ∷ option_map_or span_code (span_of_kind (kind_at frames m)) 0 ∷ [])

unfoldable pub frame_answer : List ℕ → List ℕ
frame_answer x = frame_numbers (take (get_or x 6 0) (rows_of x)) (low (get_or x 7 0))
