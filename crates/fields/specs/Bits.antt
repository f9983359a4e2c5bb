-- A bit field of a word, by its bit numbers as DDI 0487 writes them: bits hi:lo.
use Rattle.std.specs.Prelude.{ℕ, ◌+◌, ◌-◌, ◌/◌, ◌%◌, ◌^◌}

abbrev pub bits : ℕ → ℕ → ℕ → ℕ
bits hi lo d = d / 2 ^ lo % 2 ^ (hi + 1 - lo)
