-- What is written goes on: from before some runs to before those that follow.
use Rattle.std.specs.Prelude.{Option, ℕ, ◌+◌, ◌<◌, List, ◌≡◌}
use Rattle.annex.specs.Writing.{resumed, Written}
use Rattle.annex.specs.declared.Writer.{Writer}
use Rattle.reach.specs.declared.Reach.{Reach}
use Rattle.runs.specs.Page.{page_of}
use Rattle.runs.specs.Runs.{runs_from}
use Rattle.runs.specs.declared.Run.{Run}

-- from before these runs to before those
abbrev pub Onward : Writer → List Run → Writer → List Run → Type 0
Onward p rs q ts =
    (text old : List ℕ) →
    Written text old (page_of (resumed p.begun rs)) p.at p.page.now → Written text old (page_of (resumed q.begun ts)) q.at q.page.now

-- over some addresses, by what is granted to each
abbrev pub Across : ℕ → ℕ → (ℕ → Option Reach) → Writer → Writer → Type 0
Across ipa span grants p q =
    (f : ℕ → Option Reach) (n : ℕ) →
    ((i : ℕ) → i < span → f (ipa + i) ≡ grants i) → Onward p (runs_from f ipa (span + n)) q (runs_from f (ipa + span) n)
