-- The page of some runs, by request M-100.
use Rattle.std.specs.Prelude.{ℕ, Bool, replicate}
use mathlib.Core.List.{List, [], ◌∷◌, ◌++◌, flat_map}
use Rattle.fields.specs.Ascii.{ascii, space, line_feed}
use Rattle.fields.specs.Named.{pick}
use Rattle.perm.specs.Perm.{perm_writes}
use Rattle.perm.specs.declared.Perm.{Perm}
use Rattle.runs.specs.declared.Run.{Run}
use Rattle.text.specs.Digits.{digits}

-- RO or RW
abbrev pub access_text : Perm → List ℕ
access_text p = pick (perm_writes p) (ascii "RW") (ascii "RO")

-- X or -, where it is never executed
abbrev pub execute_text : Bool → List ℕ
execute_text never = pick never (ascii "-") (ascii "X")

-- the bytes of a line
abbrev pub line_length : ℕ
line_length = 40

-- first and last address in 10 upper-case hexadecimal digits each, output in 12, access; one space between, a line feed
unfoldable pub run_line : Run → List ℕ
run_line r =
    digits 10 r.first
    ++ (space ∷ [])
    ++ digits 10 r.last
    ++ (space ∷ [])
    ++ digits 12 r.pa
    ++ (space ∷ [])
    ++ access_text r.perm
    ++ (space ∷ [])
    ++ execute_text r.xn
    ++ (line_feed ∷ [])

-- 39 equals signs and a line feed
unfoldable pub last_line : List ℕ
last_line = replicate 39 0x3D ++ (line_feed ∷ [])

-- a line for each run, and the last line
unfoldable pub page_of : List Run → List ℕ
page_of rs = flat_map run_line rs ++ last_line
