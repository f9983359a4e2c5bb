-- A run's word by an index of its table.
use Rattle.std.specs.Prelude.{ℕ, ◌+◌, ◌-◌, ◌&&◌, leb, ltb}
use Rattle.arena.specs.Encoded.{Run}
use Rattle.fields.specs.Named.{pick}

-- before the run and past it is none
abbrev pub run_at : Run → ℕ → ℕ
run_at r j = pick (leb r.from j && ltb j (r.from + r.count)) (r.word (j - r.from)) 0
