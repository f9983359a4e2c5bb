-- `Run::line` meets its contract: a line of spaces with the digits of each number, and the marks, put in their place.
use Prim.Native.Nat.{ℕ}
use mathlib.Core.List.{List, [], ◌∷◌, ◌++◌}
use mathlib.Core.Path.{◌≡◌, ap, ap₂, ◌∙◌}
use lib.ListN.{length, set, replicate}
use borrow.Rule.Slice.PartMut.{mid_of, put_mid}
use Rattle.fields.specs.Ascii.{space, line_feed}
use Rattle.runs.specs.Page.{run_line}
use Rattle.text.specs.Digits.{digits}
use Rattle.runs.proofs.Run.line.Goals as goal
use Rattle.runs.proofs.Run.line.Goals.{After-spell-2}

-- the line with the digits of the first address, and then with those of the last
abbrev with_first : List ℕ → List ℕ
with_first a = put_mid 0 10 (replicate 40 space) a

abbrev with_last : List ℕ → List ℕ → List ℕ
with_last a b = put_mid 11 10 (with_first a) b

-- all that stands in a line
abbrev line_with : ℕ → ℕ → ℕ → List ℕ → List ℕ → List ℕ
line_with first last pa access execute =
    digits 10 first
    ++ (space ∷ [])
    ++ digits 10 last
    ++ (space ∷ [])
    ++ digits 12 pa
    ++ (space ∷ [])
    ++ access
    ++ (space ∷ [])
    ++ execute
    ++ (line_feed ∷ [])

last_line :
    (c : After-spell-2) →
    with_last c.spell.new.out c.spell-2.new.out
    ≡ with_last (digits 10 c.args.self.first) (digits 10 c.args.self.last)
last_line c =
    let room = ap (λ (l : List ℕ). digits (length (mid_of 11 10 l)) c.args.self.last) (ap with_first c.spell.ensures) in
    ap₂ with_last c.spell.ensures (c.spell-2.ensures ∙ room)

pub returns : goal.returns
unfolding run_line
returns c =
    let e = last_line (goal.at.returns c).After-spell-2 in
    let self = c.args.self in
    let room = ap (λ (l : List ℕ). digits (length (mid_of 22 12 l)) self.pa) e in
    let put : List ℕ → List ℕ → List ℕ =
    λ l p. set (set (set (set (put_mid 22 12 l p) 35 0x52) 36 c.write_mark.result) 38 c.execute_mark.result) 39 line_feed in
    ap₂ put e (c.spell-3.ensures ∙ room)
    ∙ ap₂ (line_with self.first self.last self.pa) c.write_mark.ensures c.execute_mark.ensures
