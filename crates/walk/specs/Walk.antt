-- What a walk reaches, by document 01 ("Arena"): the reading of the leaf where the descent ends.
use Rattle.std.specs.Prelude.{Option, Some, None}
use Rattle.decode.specs.declared.Decoded.{Decoded}
use Rattle.reach.specs.declared.Reach.{Reach}
use Rattle.std.specs.Prelude.{ℕ, ◌+◌, ◌%◌, List, eqb}
use Rattle.decode.specs.Decoded.{decoded_page, decoded_block}
use Rattle.descent.specs.Descent.{Words, words_of, stop_of}
use Rattle.descent.specs.declared.Stop.{Stop}
use Rattle.descent.specs.declared.Stop.TheVariants.{Leaf, Stopped}
use Rattle.fields.specs.Named.{pick}
use Rattle.layout.specs.Size.{page, block}
use Rattle.refusal.specs.Table.{first}
use Rattle.refusal.specs.Told.{Told, after}
use Rattle.rows.specs.Rows.{row1}

-- the leaf's output address, and the offset below it; access 00 or 10 reaches nothing
abbrev pub leaf_reach : ℕ → Option Decoded → Option Reach
leaf_reach offset (Some d) = Some (record { pa = d.pa + offset; perm = d.perm; xn = d.xn })
leaf_reach offset None = None

-- a page at level 3, else a block
abbrev pub reading : ℕ → Stop → Option Reach
reading x (Leaf level d) = pick (eqb level 3) (leaf_reach (x % page) (decoded_page d)) (leaf_reach (x % block) (decoded_block d))
reading x (Stopped level) = None

-- from the l1 address down to where the descent stops; an address of 2^39 or more reaches nothing
unfoldable pub walk_of : List ℕ → (ℕ → Words) → ℕ → Option Reach
walk_of tables ws x = reading x (stop_of tables ws x)

-- a walk never refuses but by 1; each of its reads sees the arena as it is
abbrev pub walked_from : List ℕ → List ℕ → ℕ → Told (Option Reach)
walked_from arena tables x = after (first (row1 arena)) (walk_of tables (λ left. words_of arena) x)
