-- Row 17 of document 01's table ("Leaf maps").
use Rattle.std.specs.List.{fold, zip}
use Rattle.std.specs.Prelude.{ℕ, ◌&&◌, max, min, List, [], ◌∷◌, get_or}
use Rattle.fields.specs.Numbers.{nonzero}
use Rattle.refusal.specs.Table.{Row, refuse_if}

-- row 17: a frame in both maps
unfoldable pub row17 : List ℕ → ℕ → ℕ → List Row
row17 sup m entry = refuse_if (nonzero entry && nonzero (get_or sup m 0)) 17 (m ∷ [])

-- the largest of the lesser of each frame's two entries
abbrev pub largest_shared : List ℕ → List ℕ → ℕ
largest_shared base sup = fold (λ most p. max most (min p.0 p.1)) 0 (zip base sup)
