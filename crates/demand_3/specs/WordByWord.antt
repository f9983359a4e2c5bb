-- The words at a cut, by document 01 ("Update").
use Rattle.std.specs.Prelude.{ℕ, ◌-◌, ◌<◌, List, ◌≡◌, leb, ltb, get_or}
use Rattle.arena.specs.Encoded.{target}
use Rattle.fields.specs.Named.{pick}
use Rattle.layout.specs.Size.{arena_length}
use Rattle.update.specs.Step.{halfway, step_count}
use Rattle.demand_3.specs.Cuts.{Step, cut_after, In}
use Rattle.demand_3.specs.Demand3.{Premises}
use Rattle.demand_3.specs.Sources.{Source, maps_of}

abbrev pub target_from : Source → ℕ → ℕ
target_from s i = target s.layout (maps_of s).base (maps_of s).sup i

-- word i after k stores. Up to half-way the first k words are 0, the rest old; past it the last k − 3,072 are what encoding into zeros
-- leaves there, the rest 0
unfoldable pub word_after : ℕ → List ℕ → Source → ℕ → ℕ
word_after k old s i =
    pick (leb k halfway) (pick (ltb i k) 0 (get_or old i 0)) (pick (leb (step_count - k) i) (target_from s i) 0)

abbrev pub WordByWord : Type 0
WordByWord =
    (tables words : List ℕ) (steps : List Step) →
    Premises tables words steps →
    (old : List ℕ) (source : Source) (n k : ℕ) →
    In old source (cut_after words steps n) k →
    (i : ℕ) → i < arena_length → get_or (cut_after words steps n).words i 0 ≡ word_after k old source i
