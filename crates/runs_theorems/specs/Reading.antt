-- A page can be read: its lines tell the runs, by the reader of hexadecimal numbers that scenes are read with, and no other runs.
use Rattle.std.specs.Prelude.{Some}
use Rattle.std.specs.Prelude.{ℕ, ◌+◌, ◌-◌, ◌^◌, ◌<◌, ◌≤◌, true, false, List, [], ◌∷◌, ◌⊎◌, ◌≡◌, take, drop}
use Rattle.fields.specs.Ascii.{ascii}
use Rattle.perm.specs.declared.Perm.TheVariants.{Ro, Rw, Rx}
use Rattle.refusal.specs.All.{All}
use Rattle.runs.specs.Page.{line_length, page_of}
use Rattle.runs.specs.declared.Run.{Run}
use Rattle.scene_line.specs.Line.{number_of}

-- a line has room for a run: 10 hexadecimal digits for each of its addresses, 12 for each of its outputs, and RO or RW for its access
pub record Spelled (r : Run) : Type 0 where
  pub proper : r.first ≤ r.last
  pub addresses : r.last < 16 ^ 10
  pub outputs : r.pa + (r.last - r.first) < 16 ^ 12
  pub access : r.perm ≡ Rx → ⊥

-- some bytes of a line
abbrev pub part : List ℕ → ℕ → ℕ → List ℕ
part line from n = take n (drop from line)

-- first and last address, output, RO or RW, X or -
pub record LineTells (line : List ℕ) (r : Run) : Type 0 where
  pub first : number_of (part line 0 10) ≡ Some r.first
  pub last : number_of (part line 11 10) ≡ Some r.last
  pub output : number_of (part line 22 12) ≡ Some r.pa
  pub access : ((r.perm ≡ Ro) × (part line 35 2 ≡ ascii "RO")) ⊎ ((r.perm ≡ Rw) × (part line 35 2 ≡ ascii "RW"))
  pub execute : ((r.xn ≡ false) × (part line 38 1 ≡ ascii "X")) ⊎ ((r.xn ≡ true) × (part line 38 1 ≡ ascii "-"))

-- line by line, and the last line
abbrev pub PageTells : List ℕ → List Run → Type 0
PageTells page [] = page ≡ ascii "=======================================\n"
PageTells page (r ∷ rs) = LineTells (take line_length page) r × PageTells (drop line_length page) rs

abbrev pub PagesAreRead : Type 0
PagesAreRead = (rs : List Run) → All Spelled rs → PageTells (page_of rs) rs

abbrev pub OneReading : Type 0
OneReading = (page : List ℕ) (rs ts : List Run) → PageTells page rs → PageTells page ts → rs ≡ ts
