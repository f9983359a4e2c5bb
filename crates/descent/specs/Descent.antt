-- The descent through the tables, by document 01 ("Arena"): from level 1 through level 2 to level 3, with remaining levels falling.
use Rattle.std.specs.Prelude.{Option, Some, None}
use Rattle.std.specs.Prelude.{ℕ, zero, suc, ◌+◌, ◌*◌, ◌/◌, ◌%◌, List, [], ◌∷◌, eqb, ltb, get_or}
use Rattle.decode.specs.Decoded.{decoded_table}
use Rattle.desc.specs.Descriptor.{descriptor_type, block_type, page_type}
use Rattle.descent.specs.declared.Stop.{Stop}
use Rattle.descent.specs.declared.Stop.TheVariants.{Leaf, Stopped}
use Rattle.fields.specs.Named.{pick}
use Rattle.layout.specs.Size.{entries, page, input_limit}

-- the words that a read sees, by their place in the arena
abbrev pub Words : Type 0
Words = ℕ → ℕ

abbrev pub words_of : List ℕ → Words
words_of arena i = get_or arena i 0

-- what an entry covers that has so many levels below it: a page, a block, 1 GiB
abbrev pub entry_size : ℕ → ℕ
entry_size zero = page
entry_size (suc left) = entries * entry_size left

-- nine index bits a level
abbrev pub index : ℕ → ℕ → ℕ
index left x = x / entry_size left % entries

-- a fetch reads the first table whose address is exactly the one named, else what stands outside; each table has 512 words, and the
-- first of these stands at word `from`
unfoldable pub fetch_from : ℕ → ℕ → List ℕ → Words → ℕ → ℕ → ℕ
fetch_from from outside [] words named j = outside
fetch_from from outside (t ∷ ts) words named j =
    pick (eqb t named) (words (from + j)) (fetch_from (from + entries) outside ts words named j)

abbrev pub fetch : ℕ → List ℕ → Words → ℕ → ℕ → ℕ
fetch outside tables words named j = fetch_from 0 outside tables words named j

-- where no word leads on: a page at level 3, a block at level 2; level 1 knows none
abbrev pub ends_at : ℕ → ℕ → Stop
ends_at zero d = pick (eqb (descriptor_type d) page_type) (Leaf 3 d) (Stopped 3)
ends_at (suc zero) d = pick (eqb (descriptor_type d) block_type) (Leaf 2 d) (Stopped 2)
ends_at (suc (suc left)) d = Stopped 1

-- the table that an entry's word leads to
abbrev pub next_table : ℕ → Option ℕ
next_table d = decoded_table d

-- on from the table that a word leads to; where there is none, the descent ends here
abbrev pub leads : {A : Type 0} → Option ℕ → (ℕ → A) → A → A
leads (Some named) down here = down named
leads None down here = here

-- from an entry's word, with so many levels left below it: each read sees words of its own, and outside the arena zero
abbrev pub through : List ℕ → (ℕ → Words) → ℕ → ℕ → ℕ → Stop
through tables ws zero d x = ends_at 0 d
through tables ws (suc left) d x =
    leads (next_table d) (λ next. through tables ws left (fetch 0 tables (ws left) next (index left x)) x) (ends_at (suc left) d)

-- from the table named, with so many levels left below its own
unfoldable pub descend : List ℕ → (ℕ → Words) → ℕ → ℕ → ℕ → Stop
descend tables ws left named x = through tables ws left (fetch 0 tables (ws left) named (index left x)) x

-- where the walk stops: it starts at the l1 address; an address of 2^39 or more stops at level 0, as DDI 0487 has it
abbrev pub stop_of : List ℕ → (ℕ → Words) → ℕ → Stop
stop_of tables ws x = pick (ltb x input_limit) (descend tables ws 2 (get_or tables 0 0) x) (Stopped 0)
