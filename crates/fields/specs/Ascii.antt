-- Bytes by their ASCII codes.
use Prim.Native.Char.{code}
use Rattle.std.specs.Prelude.{ℕ, List, [] as []ᴸ, ◌∷◌ as ◌∷ᴸ◌}
use Prim.Native.String.{String, [], ◌∷◌}

abbrev pub space : ℕ
space = 0x20

abbrev pub line_feed : ℕ
line_feed = 0x0A

-- the bytes of a text
abbrev pub ascii : String → List ℕ
ascii [] = []ᴸ
ascii (c ∷ text) = code c ∷ᴸ ascii text
