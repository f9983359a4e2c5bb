-- The manual's translation by numbers: a machine, an access and what stands outside the arena, and the answer.
use Rattle.std.specs.Prelude.{Option, Some, None}
use Rattle.std.specs.Prelude.{ℕ, Bool, ◌&&◌, List, [], ◌∷◌, eqb, get_or}
use Rattle.descent.specs.Descent.{words_of}
use Rattle.fields.specs.Named.{pick}
use Rattle.fields.specs.Numbers.{nonzero}
use Rattle.manual.specs.Translation.{Access, reads, writes, executes, el0, el1, Machine, Translated, byte, fault, translation}

-- a place is three numbers: the address named, the index, and the word that stands there
abbrev pub is_at : ℕ → ℕ → List ℕ → Bool
is_at named j place = eqb (get_or place 0 0) named && eqb (get_or place 1 0) j

-- the word of the first place that is the one asked for, else 0
unfoldable pub elsewhere_of : List (List ℕ) → ℕ → ℕ → ℕ
elsewhere_of [] named j = 0
elsewhere_of (place ∷ places) named j =
    pick (is_at named j place) (get_or place 2 0) (elsewhere_of places named j)

-- with FEAT_XNX or without it
abbrev pub machine_of : Bool → List (List ℕ) → Machine
machine_of xnx places = record { xnx = xnx; elsewhere = elsewhere_of places }

-- 0 reads, 1 writes, 2 executes at EL0, any other executes at EL1
abbrev pub access_numbered : ℕ → Access
access_numbered n = get_or (reads ∷ writes ∷ executes el0 ∷ []) n (executes el1)

-- 1 and the byte, or 0 and 0
abbrev pub translated_numbers : Translated → List ℕ
translated_numbers (byte pa) = 1 ∷ pa ∷ []
translated_numbers fault = 0 ∷ 0 ∷ []

-- of FEAT_XNX, zero is no; each read sees the arena as it is
abbrev pub translation_answer : List ℕ → List ℕ → List (List ℕ) → ℕ → ℕ → ℕ → List ℕ
translation_answer arena tables places xnx access x =
    translated_numbers (translation (machine_of (nonzero xnx) places) tables (λ left. words_of arena) (access_numbered access) x)

-- how the code carries an answer
abbrev pub translated_of : Option ℕ → Translated
translated_of (Some pa) = byte pa
translated_of None = fault
