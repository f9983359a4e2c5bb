-- `put_run` meets its contract: m words of the run are stored.
use Rattle.std.proofs.Common.{ℕ, [], ◌∷◌, ◌≡◌}
use Rattle.arena.specs.Encoded.{run, stored}
use Rattle.arena.specs.Over.{Over}
use Rattle.encode.proofs.put_run.Given as goal

abbrev pub invariant-loop-m : goal.invariant-loop-m
invariant-loop-m g l =
    (f : ℕ → ℕ) → ((m w : ℕ) → goal.F-post g l.word m w → w ≡ f m) → Over (stored (run l.table l.from l.m f ∷ [])) l.initial.arena l.arena
