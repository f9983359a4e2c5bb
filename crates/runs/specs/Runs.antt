-- The longest runs of addresses with continuous output and equal access, in address order, by request M-100.
use Rattle.std.specs.Prelude.{Option, Some, None}
use Rattle.std.specs.Prelude.{ℕ, zero, suc, ◌+◌, ◌-◌, Bool, ◌&&◌, List, [], ◌∷◌, eqb}
use Rattle.fields.specs.Named.{pick}
use Rattle.fields.specs.Numbers.{bit}
use Rattle.perm.specs.Perm.{perm_code}
use Rattle.reach.specs.declared.Reach.{Reach}
use Rattle.runs.specs.declared.Run.{Run}

-- from the first to the last address; output is that of the first
abbrev pub run : ℕ → ℕ → Reach → Run
run first last r = record { first = first; last = last; pa = r.pa; perm = r.perm; xn = r.xn }

-- Ro or Rw, and executable or not
abbrev pub same_access : Run → Run → Bool
same_access r s = eqb (perm_code r.perm) (perm_code s.perm) && eqb (bit r.xn) (bit s.xn)

-- a run goes on in the next one: the next address, the output as far on, and equal access
abbrev pub goes_on : Run → Run → Bool
goes_on r s = eqb (suc r.last) s.first && eqb (r.pa + (s.first - r.first)) s.pa && same_access r s

-- both as one
abbrev pub joined : Run → Run → Run
joined r s = record { first = r.first; last = s.last; pa = r.pa; perm = r.perm; xn = r.xn }

-- a run before those that follow: it is one with the first of them where it goes on in that
unfoldable pub before : Run → List Run → List Run
before r [] = r ∷ []
before r (s ∷ rs) = pick (goes_on r s) (joined r s ∷ rs) (r ∷ s ∷ rs)

-- an address, by what it reaches, before the runs of the addresses that follow
abbrev pub with_address : ℕ → Option Reach → List Run → List Run
with_address x (Some r) rs = before (run x x r) rs
with_address x None rs = rs

-- the runs of n addresses, from x on
unfoldable pub runs_from : (ℕ → Option Reach) → ℕ → ℕ → List Run
runs_from f x zero = []
runs_from f x (suc n) = with_address x (f x) (runs_from f (suc x) n)
