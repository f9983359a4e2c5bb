-- At exit nothing is had of a function's parameters: what was passed by value and by `&` is said to be as it was, whatever is left of it.
use Prim.Native.Nat.{ℕ}
use mathlib.Core.List.{List, [], ◌∷◌}
use seplogic.Ra.Ura.{Ura}
use types.Logic.{Logic}
use denote.Signature.{Slot}
use denote.Triple.End.{Kepts}
use denote.Triple.Walked.{Stays, stay_dropped, Silent, AllGo, Goes-dropped}

module _ {n : ℕ} where
  abbrev pub dropped : (ss : List (Slot n)) (ks : Kepts ss) → Stays ss ks
  dropped [] ks = tt
  dropped (s ∷ ss) ks = (stay_dropped s ks.0, dropped ss ks.1)

  module _ {M : Type 1} {𝓤 : Ura M} (𝓛 : Logic 𝓤) where
    abbrev pub Silents : (ss : List (Slot n)) → Kepts ss → Type 1
    Silents [] ks = Unit {1}
    Silents (s ∷ ss) ks = Silent 𝓛 n s ks.0 × Silents ss ks.1

    pub dropped_go : (ss : List (Slot n)) (ks : Kepts ss) → Silents ss ks → AllGo 𝓛 n ss ks (dropped ss ks)
    dropped_go [] ks q = tt
    dropped_go (s ∷ ss) ks q = (Goes-dropped 𝓛 n s ks.0 q.0, dropped_go ss ks.1 q.1)
