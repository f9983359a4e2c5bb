-- What demand 3 uses of a reader of tables; the walk and the manual's translation have it, each being a descent.
use Prim.Native.Nat.{ℕ, ◌<◌}
use mathlib.Core.List.{List, ◌∷◌}
use mathlib.Core.Path.{◌≡◌}
use Rattle.accepted_facts.specs.Guarded.{Guarded}
use Rattle.arena.specs.Encoded.{target}
use Rattle.demand_2.proofs.Demand2.{reaches_whole}
use Rattle.demand_2.specs.Demand2.{addresses_of}
use Rattle.demand_3.specs.Readers.{EachRead, Reader, the_walk, the_manual}
use Rattle.demand_3.proofs.Torn.{reads_torn, reads_same, reads_zeros}
use Rattle.descent.specs.Descent.{Words}
use Rattle.layout.specs.Size.{board_limit, arena_length}
use Rattle.layout.specs.declared.Layout.{Layout}
use Rattle.manual.proofs.OneDescent.{Either, Torn, walk_descent, walk_descends, manual_descent, manual_descends}
use Rattle.manual.specs.Translation.{Machine, Access}
use Rattle.walk.specs.Walk.{walk_of}
use Rattle.window_reach.specs.Granted.{granted}

pub record Lawful {A : Type 0} (r : Reader A) : Type 0 where
  pub torn :
      (tables : List ℕ) (ws : ℕ → Words) (whole : Words) (x : ℕ) →
      EachRead (λ n. Torn (ws n) whole) → Either (r.gives tables ws x) (r.gives tables (λ n. whole) x) r.nothing
  pub same :
      (tables : List ℕ) (ws : ℕ → Words) (whole : Words) (x : ℕ) →
      EachRead (λ n. ws n ≡ whole) → r.gives tables ws x ≡ r.gives tables (λ n. whole) x
  pub zeros :
      (l1 : ℕ) (others : List ℕ) (ws : ℕ → Words) (x : ℕ) →
      ((i : ℕ) → ws 2 i ≡ 0) → r.gives (l1 ∷ others) ws x ≡ r.nothing
  pub grants :
      (l : Layout) (base sup : List ℕ) (words : Words) (x : ℕ) →
      Guarded board_limit base sup l →
      ((i : ℕ) → i < arena_length → words i ≡ target l base sup i) →
      r.gives (addresses_of l) (λ n. words) x ≡ r.reaching (granted l base sup x)

pub walk_lawful : Lawful the_walk
walk_lawful =
    record {
      torn = reads_torn walk_descent walk_of walk_descends;
      same = reads_same walk_descent walk_of walk_descends;
      zeros = reads_zeros walk_descent walk_of walk_descends;
      grants = λ l base sup words x g is. (reaches_whole l base sup words g is x).walks;
    }

pub manual_lawful : (m : Machine) (a : Access) → Lawful (the_manual m a)
manual_lawful m a =
    record {
      torn = reads_torn (manual_descent m a) (the_manual m a).gives (manual_descends m a);
      same = reads_same (manual_descent m a) (the_manual m a).gives (manual_descends m a);
      zeros = reads_zeros (manual_descent m a) (the_manual m a).gives (manual_descends m a);
      grants = λ l base sup words x g is. (reaches_whole l base sup words g is x).translates m a;
    }
