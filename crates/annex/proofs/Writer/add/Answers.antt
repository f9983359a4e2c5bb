-- `add` meets its contract: the run that has begun goes on, or its line is put.
use Rattle.std.proofs.Common.{◌≡◌, ℕ, List, Some, None, subst, sym, rules}
use Rattle.std.specs.Option.{option_and_then}
use Rattle.annex.proofs.Writing.{Longer, longer, closes}
use Rattle.annex.specs.Writing.{Written, lengthened, line_at}
use Rattle.runs.specs.Page.{page_of}
use Rattle.runs.specs.Runs.{before}
use Rattle.runs.specs.declared.Run.{Run}
use Rattle.annex.proofs.Writer.add.Goals as goal

pub returns-in-Some-clause-onward : goal.returns-in-Some-clause-onward
returns-in-Some-clause-onward c =
    let self = c.args.self.now in
    let piece = c.args.piece in
    let found : option_and_then (λ r. lengthened r piece) self.begun ≡ Some c.in-Some.longer = search rules in
    let is = subst (Longer self.begun piece) found (longer self.begun piece self.proper c.requires.first_le_last) in
    λ rs text old w. subst (λ (ts : List Run). Written text old (page_of ts) self.at self.page.now) (is rs) w

pub returns-clause-onward : goal.returns-clause-onward
returns-clause-onward c =
    let self = c.args.self.now in
    let piece = c.args.piece in
    let found : option_and_then (λ r. lengthened r piece) self.begun ≡ None = search rules in
    let is = subst (Longer self.begun piece) found (longer self.begun piece self.proper c.requires.first_le_last) in
    λ rs text old w.
    let after = closes text old self.begun (before piece rs) self.page.now self.at
    (subst (λ (ts : List Run). Written text old (page_of ts) self.at self.page.now) (is rs) w) in
    subst (λ (b : List ℕ). Written text old (page_of (before piece rs)) c.close.new.self.at b) (sym c.close.ensures.page)
    (subst (λ (n : ℕ). Written text old (page_of (before piece rs)) n (line_at self.begun self.at self.page.now))
    (sym c.close.ensures.at) after)
