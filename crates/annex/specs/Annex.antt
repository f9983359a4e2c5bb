-- The annex page, by request M-100: worked from layout and maps, and refused as encoding refuses them.
use Rattle.std.specs.Prelude.{ℕ, ◌^◌, List, [], ◌∷◌, ◌≡◌, ltb, length}
use Rattle.layout.specs.Size.{board_limit}
use Rattle.layout.specs.declared.Layout.{Layout}
use Rattle.refusal.specs.Table.{Row, Outcome, accepted, refused, refuse_if, all_rows, first}
use Rattle.refusal.specs.Told.{Told, after}
use Rattle.rows.specs.Rows.{guard_rows}
use Rattle.runs.specs.Page.{page_of}
use Rattle.runs.specs.Runs.{runs_from}
use Rattle.runs.specs.declared.Run.{Run}
use Rattle.text.specs.Front.{in_front}
use Rattle.window_reach.specs.Granted.{granted}

-- the addresses of 64 bits
abbrev pub address_count : ℕ
address_count = 2 ^ 64

-- of every address that is granted something
unfoldable pub annex_runs : Layout → List ℕ → List ℕ → List Run
annex_runs l base sup = runs_from (granted l base sup) 0 address_count

abbrev pub annex_page : Layout → List ℕ → List ℕ → List ℕ
annex_page l base sup = page_of (annex_runs l base sup)

-- row 27: the page is longer than the buffer
unfoldable pub row27 : List ℕ → List ℕ → List Row
row27 page buffer = refuse_if (ltb (length buffer) (length page)) 27 []

-- 2 to 14, as no arena is lent, then 27
unfoldable pub annex_rows : List ℕ → List ℕ → List ℕ → Layout → List Row
annex_rows buffer base sup l = all_rows (guard_rows board_limit base sup l ∷ row27 (annex_page l base sup) buffer ∷ [])

-- the written page is the front part of the buffer, and the rest stays; where a row refuses, all of it stays
abbrev pub annex_left : Outcome → List ℕ → List ℕ → List ℕ
annex_left accepted page buffer = in_front page buffer
annex_left (refused r) page buffer = buffer

abbrev pub annex_outcome : List ℕ → List ℕ → List ℕ → Layout → Outcome
annex_outcome buffer base sup l = first (annex_rows buffer base sup l)

-- the bytes written
abbrev pub annex_told : List ℕ → List ℕ → List ℕ → Layout → Told ℕ
annex_told buffer base sup l = after (annex_outcome buffer base sup l) (length (annex_page l base sup))

-- the answer, and the buffer at exit
pub record AnnexAnswer (l : Layout) (base sup old : List ℕ) (answer : Told ℕ) (new : List ℕ) : Type 0 where
  pub tells : answer ≡ annex_told old base sup l
  pub buffer : new ≡ annex_left (annex_outcome old base sup l) (annex_page l base sup) old
