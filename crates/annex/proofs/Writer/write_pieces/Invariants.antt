-- `write_pieces` meets its contract: the pieces before p are gone through.
use Rattle.std.proofs.Common.{◌≡◌, ℕ, ◌+◌, ◌*◌, ◌/◌, ◌≤◌, ◌<◌, Option, get_or}
use Rattle.annex.proofs.Pieces.{on_from}
use Rattle.annex.specs.Onward.{Onward}
use Rattle.reach.specs.declared.Reach.{Reach}
use Rattle.window_reach.specs.Granted.{by_entry}
use Rattle.annex.proofs.Writer.write_pieces.Given as goal

abbrev pub invariant-loop-p : goal.invariant-loop-p
invariant-loop-p l = record {
  same_page : l.self.page.ghost_name ≡ l.initial.self.page.ghost_name;
  few : l.self.at ≤ l.w.ipa + l.p * l.size;
  onward :
      (f : ℕ → Option Reach) (n : ℕ) →
      ((i : ℕ) → i < l.w.span / l.size * l.size → f (l.w.ipa + i) ≡ by_entry (l.w.pa + i) l.exempt (get_or l.map (i / l.size) 0)) →
      Onward l.initial.self (on_from f l.w.ipa (l.w.span / l.size) l.size n 0) l.self (on_from f l.w.ipa (l.w.span / l.size) l.size n l.p);
}
