-- A line of a scene, by document 01 ("Proved and printed"): L field value, B position code, or U position code for supers.
use Rattle.std.specs.Prelude.{ℕ, ◌+◌, ◌-◌, ◌*◌, Bool, ◌&&◌, ◌||◌, not, eqb, leb, List, [], ◌∷◌, length, fold, Option, Some, None}
use Rattle.std.specs.List.{position_or_len, before_first, after_first}
use Rattle.fields.specs.Ascii.{space}
use Rattle.fields.specs.Named.{pick}
use Rattle.layout.specs.Layout.{field_count}
use Rattle.scene_line.specs.declared.Line.{Line}
use Rattle.scene_line.specs.declared.Line.TheVariants.{Field, Base, Super}

-- the letters, by their ASCII codes
abbrev pub letter_l : ℕ
letter_l = 0x4C

abbrev pub letter_b : ℕ
letter_b = 0x42

abbrev pub letter_u : ℕ
letter_u = 0x55

abbrev pub within : ℕ → ℕ → ℕ → Bool
within least most n = leb least n && leb n most

-- 0 to 9, A to F
unfoldable pub digit_of : ℕ → Option ℕ
digit_of c =
    pick (within 0x30 0x39 c) (Some (c - 0x30)) (pick (within 0x41 0x46 c) (Some (c - 0x41 + 10)) None)

-- one more digit after a number
abbrev pub with_digit : Option ℕ → Option ℕ → Option ℕ
with_digit (Some n) (Some d) = Some (n * 16 + d)
with_digit (Some n) None = None
with_digit None d = None

-- more digits after a number
abbrev pub with_digits : Option ℕ → List ℕ → Option ℕ
with_digits n cs = fold (λ m c. with_digit m (digit_of c)) n cs

-- 1 to 16 digits, upper case
unfoldable pub number_of : List ℕ → Option ℕ
number_of cs = pick (within 1 16 (length cs)) (with_digits (Some 0) cs) None

abbrev pub is_space : ℕ → Bool
is_space c = eqb c space

-- where the first space stands, or the end
abbrev pub first_space : List ℕ → ℕ
first_space cs = position_or_len is_space cs

-- the bytes before the first space, and those after it
abbrev pub before_space : List ℕ → List ℕ
before_space cs = before_first is_space cs

abbrev pub after_space : List ℕ → List ℕ
after_space cs = after_first is_space cs

abbrev pub exemption : ℕ
exemption = 0xF

-- field is one of the layout's, the exemption 0 or 1
abbrev pub is_field : ℕ → ℕ → Bool
is_field n value = within 1 field_count n && (not (eqb n exemption) || leb value 1)

-- position at most 1FF, code at most 3
abbrev pub is_entry : ℕ → ℕ → Bool
is_entry position code = leb position 0x1FF && leb code 3

-- what a letter says of two numbers, if it says something
unfoldable pub said : ℕ → ℕ → ℕ → Option Line
said letter a b =
    pick (eqb letter letter_l && is_field a b) (Some (Field a b))
    (pick (eqb letter letter_b && is_entry a b) (Some (Base a b)) (pick (eqb letter letter_u && is_entry a b) (Some (Super a b)) None))

abbrev pub said_by : ℕ → Option ℕ → Option ℕ → Option Line
said_by letter (Some a) (Some b) = said letter a b
said_by letter (Some a) None = None
said_by letter None b = None

-- two numbers with one space between
unfoldable pub said_after : ℕ → List ℕ → Option Line
said_after letter cs = said_by letter (number_of (before_space cs)) (number_of (after_space cs))

-- a letter, a space and the two numbers, without the line feed; a line of another form says nothing
unfoldable pub line_of : List ℕ → Option Line
line_of [] = None
line_of (letter ∷ []) = None
line_of (letter ∷ c ∷ cs) = pick (eqb c space) (said_after letter cs) None
