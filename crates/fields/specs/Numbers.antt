-- Yes or no as a number, and answers as eight of them.
use Rattle.std.specs.Prelude.{ℕ, ◌-◌, ◌%◌, ◌^◌, Bool, not, List, ◌++◌, eqb, length, replicate}
use mir.Val.{bool_byte}

-- the numbers given, and zeros up to eight; a ninth is not cut
abbrev pub eight : List ℕ → List ℕ
eight xs = xs ++ replicate (8 - length xs) 0

-- no is 0, yes is 1
abbrev pub bit : Bool → ℕ
bit = bool_byte

-- of what passes as a number, zero is no and all else yes
abbrev pub nonzero : ℕ → Bool
nonzero n = not (eqb n 0)

-- a 32-bit number
abbrev pub low : ℕ → ℕ
low n = n % 2 ^ 32
