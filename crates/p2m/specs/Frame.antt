-- Frames by owner and kind, and the span of a table's leaves, by document 01 ("Edge and frame records").
use Rattle.std.specs.Prelude.{Option, Some, None}
use Rattle.std.specs.Prelude.{ℕ, List, [], ◌∷◌, eqb, leb, get_or}
use Rattle.fields.specs.Named.{pick, named}
use Rattle.p2m.specs.declared.Span.{Span}
use Rattle.p2m.specs.declared.Span.TheVariants.{Base, Super}
use Rattle.page_type.specs.PageType.{kind_of}
use Rattle.page_type.specs.declared.PtLevel.TheVariants.{L1, L2}

-- maps and spans: base 1, super 2
abbrev pub span_code : Span → ℕ
span_code Base = 1
span_code Super = 2

-- the span that a number says: super's code, all else base
abbrev pub span_named : ℕ → Span
span_named n = pick (eqb n (span_code Super)) Super Base

-- parent kind 2 is base, 3 is super
abbrev pub span_kind : Span → ℕ
span_kind Base = kind_of L1
span_kind Super = kind_of L2

abbrev pub span_of_kind : ℕ → Option Span
span_of_kind = named span_kind (Base ∷ Super ∷ []) Some None

-- owner numbers: 0 to 65,535 a domain, above that nobody
abbrev pub owner_named : ℕ → Option ℕ
owner_named n = pick (leb n 65535) (Some n) None

-- the owner number of what has no owner
abbrev pub nobody : ℕ
nobody = 65536

-- a frame is a row of owner number and kind; one past the list has no owner and is no page table
abbrev pub no_frame : List ℕ
no_frame = nobody ∷ 0 ∷ []

abbrev pub frame_at : List (List ℕ) → ℕ → List ℕ
frame_at frames m = get_or frames m no_frame

abbrev pub owner_of : List (List ℕ) → ℕ → Option ℕ
owner_of frames m = owner_named (get_or (frame_at frames m) 0 0)

abbrev pub kind_at : List (List ℕ) → ℕ → ℕ
kind_at frames m = get_or (frame_at frames m) 1 0
