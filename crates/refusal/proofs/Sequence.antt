-- The first row, where the rows of one check come before others: an accepting check is passed over, a refusing one decides.
use Rattle.std.specs.Prelude.{Result, Ok, Err}
use Prim.Native.Nat.{ℕ}
use mathlib.Core.List.{List, [], ◌∷◌, ◌++◌, append-nil, flat_map}
use mathlib.Core.Path.{◌≡◌, refl, sym, ◌∙◌, ap}
use native.Mathlib.Omega.{arith}
use Rattle.refusal.specs.Outcome.{outcome_of, row_of}
use Rattle.refusal.specs.Table.{Row, Outcome, accepted, refused, first, all_rows}
use Rattle.refusal.specs.declared.Refusal.{Refusal}

skip : (xs ys : List Row) → first xs ≡ accepted → first (xs ++ ys) ≡ first ys
unfolding first
skip [] ys e = refl
skip (x ∷ xs) ys e = absurd (let z : ◌≡◌ {A = ℕ} 0 1 = cc in omega arith)

halt : (xs ys : List Row) (r : Row) → first xs ≡ refused r → first (xs ++ ys) ≡ refused r
unfolding first
halt [] ys r e = absurd (let z : ◌≡◌ {A = ℕ} 0 1 = cc in omega arith)
halt (x ∷ xs) ys r e = e

pub next :
    {rows : List Row} (xs ys : List Row) (v : Result Unit Refusal) →
    rows ≡ xs ++ ys → v ≡ Ok tt → outcome_of v ≡ first xs → first rows ≡ first ys
next xs ys v split told e = ap first split ∙ skip xs ys (sym e ∙ ap outcome_of told)

pub stop :
    {rows : List Row} (xs ys : List Row) (v : Result Unit Refusal) (r : Refusal) →
    rows ≡ xs ++ ys → v ≡ Err r → outcome_of v ≡ first xs → outcome_of v ≡ first rows
stop xs ys v r split told e =
    let f : outcome_of v ≡ refused (row_of r) = ap outcome_of told in
    f ∙ sym (ap first split ∙ halt xs ys (row_of r) (sym e ∙ f))

pub last :
    {rows : List Row} (xs : List Row) (v : Result Unit Refusal) →
    rows ≡ xs ++ [] → outcome_of v ≡ first xs → outcome_of v ≡ first rows
last xs v split e = e ∙ sym (ap first (split ∙ append-nil xs))

-- the first outcome that refuses
abbrev pub or_else : Outcome → Outcome → Outcome
or_else accepted o = o
or_else (refused r) o = refused r

first-append : (xs ys : List Row) → first (xs ++ ys) ≡ or_else (first xs) (first ys)
unfolding first
first-append [] ys = refl
first-append (x ∷ xs) ys = refl

pub first_then : (xs : List Row) (rest : List (List Row)) → first (all_rows (xs ∷ rest)) ≡ or_else (first xs) (first (all_rows rest))
unfolding flat_map
first_then xs rest = first-append xs _

pub first_alone : (xs : List Row) → first (all_rows (xs ∷ [])) ≡ first xs
unfolding flat_map
first_alone xs = ap first (append-nil xs)

-- for a chain of `?`: each check's rows, then those of the checks after it
pub ruleset in_turn = (first_then, first_alone)
