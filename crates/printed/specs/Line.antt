-- The lines that are printed where a scene has no words, by document 01 ("Proved and printed").
use Rattle.std.specs.Prelude.{ℕ, zero, suc, ◌+◌, ◌/◌, ◌%◌, List, [], ◌∷◌, ◌++◌, ◌≡◌, ltb, length}
use Rattle.fields.specs.Ascii.{ascii, line_feed}
use Rattle.fields.specs.Named.{pick}
use Rattle.text.specs.Front.{in_front}

unfoldable pub bad_line : List ℕ
bad_line = ascii "BAD LINE\n"

-- a number in decimal: its last digit after those before it, if there are any; k is the most that it has
unfoldable pub decimal : ℕ → ℕ → List ℕ
decimal zero n = []
decimal (suc k) n = pick (ltb n 10) [] (decimal k (n / 10)) ++ ((0x30 + n % 10) ∷ [])

-- REFUSED, a space and the number; one of 64 bits has at most 20 digits
unfoldable pub refused_line : ℕ → List ℕ
refused_line number = ascii "REFUSED " ++ (decimal 20 number ++ (line_feed ∷ []))

-- the longest line: REFUSED, a space, 20 digits and a line feed
abbrev pub longest : ℕ
longest = 29

-- a buffer that is lent for a text, at entry and exit, and the length that is returned
pub record Puts (text old : List ℕ) (n : ℕ) (new : List ℕ) : Type 0 where
  pub long : n ≡ length text
  pub bytes : new ≡ in_front text old
