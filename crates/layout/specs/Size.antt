-- The sizes of the 4 KB granule, and what the arena holds.
use Rattle.std.specs.Prelude.{ℕ, ◌-◌, ◌*◌, ◌^◌}

-- nine index bits a level
abbrev pub entries : ℕ
entries = 512

abbrev pub page : ℕ
page = 4096

abbrev pub block : ℕ
block = entries * page

abbrev pub l1_span : ℕ
l1_span = entries * block

-- 39-bit input
abbrev pub input_limit : ℕ
input_limit = entries * l1_span

-- output addresses have 48 bits
abbrev pub output_limit : ℕ
output_limit = 2 ^ 48

-- what tables and outputs of a board's layout lie below, and those of a dumped one
abbrev pub board_limit : ℕ
board_limit = output_limit

abbrev pub dump_limit : ℕ
dump_limit = output_limit

-- the first count of blocks whose length leaves 64 bits
abbrev pub uncountable : ℕ
uncountable = 2 ^ 43

-- six tables
abbrev pub table_count : ℕ
table_count = 6

abbrev pub arena_length : ℕ
arena_length = table_count * entries

-- the place of table t's first word
abbrev pub first_word : ℕ → ℕ
first_word t = (t - 1) * entries
