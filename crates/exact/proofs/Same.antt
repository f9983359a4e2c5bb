-- Row 25 looks at what is wanted of a map's own frames alone.
use Prim.Native.Nat.{ℕ, suc, ◌+◌, ◌<◌, zero-le, suc-le-suc}
use mathlib.Core.List.{List, [], ◌∷◌, ◌++◌, flat_map}
use mathlib.Core.Path.{◌≡◌, refl, sym, ap, ◌∙◌}
use native.Mathlib.Nat.{le_trans}
use native.Mathlib.Omega.{arith}
use lib.ListN.{length, get_or, drop}
use Rattle.std.proofs.Common.{true, nat_eq}
use Rattle.std.proofs.lemmas.List.{get_or_append_left}
use Rattle.std.proofs.lemmas.Bool.Decides.{Decides-eqb}
use Rattle.std.proofs.lemmas.Slice.Eq.{starts_is}
use Rattle.std.specs.List.{starts_with}
use borrow.Author.Tests.{eq-eqb}
use Rattle.layout.specs.Size.{entries}
use Rattle.lent_rows.proofs.Read.{read_length}
use Rattle.p2m.specs.Frame.{span_code}
use Rattle.p2m.specs.declared.Span.{Span}
use Rattle.refusal.proofs.None.{accept, from_nowhere}
use Rattle.refusal.specs.Table.{Row, accepted, first, each_from}
use Rattle.rows.specs.Rows.{read_rows}
use Rattle.exact.specs.Exact.{row25, compared_rows}

from :
    (dom : ℕ) (f g : ℕ → ℕ) (k : ℕ) (xs : List ℕ) → ((i : ℕ) → i < length xs → f (k + i) ≡ g (k + i)) →
    each_from (row25 dom f) k xs ≡ each_from (row25 dom g) k xs
unfolding each_from row25
from dom f g k [] same = refl
from dom f g k (x ∷ xs) same =
    let z : k + 0 ≡ k = omega arith in
    let here : f k ≡ g k = rw z at (same 0 (suc-le-suc zero-le)) in
    rw (here, from dom f g (suc k) xs (λ i h. let s : suc k + i ≡ k + suc i = omega arith in rw s (same (suc i) (suc-le-suc h))))

pub same_rows :
    (dom : ℕ) (f g : ℕ → ℕ) (xs : List ℕ) → ((i : ℕ) → i < length xs → f i ≡ g i) →
    each_from (row25 dom f) 0 xs ≡ each_from (row25 dom g) 0 xs
same_rows dom f g xs same = from dom f g 0 xs (λ i h. let z : 0 + i ≡ i = omega arith in rw z (same i h))

-- what is wanted past the longest map is not looked at either: row 2 comes first
pub same_compared :
    (dom : ℕ) (s : Span) (f g : ℕ → ℕ) (xs : List ℕ) → ((i : ℕ) → i < entries → f i ≡ g i) →
    first (compared_rows dom s f xs) ≡ first (compared_rows dom s g xs)
unfolding compared_rows flat_map first
same_compared dom s f g xs same = go (read_rows (span_code s) xs) refl
  where
    go :
        (rs : List Row) → read_rows (span_code s) xs ≡ rs →
        first (rs ++ (each_from (row25 dom f) 0 xs ++ [])) ≡ first (rs ++ (each_from (row25 dom g) 0 xs ++ []))
    go [] e =
        let short = read_length (span_code s) xs (ap first e) in
        ap (λ es. first (es ++ [])) (same_rows dom f g xs (λ i h. same i (le_trans h short)))
    go (r ∷ rs) e = refl

-- what begins the entries wanted differs nowhere
pub none_differs :
    (dom : ℕ) (xs wanted : List ℕ) → starts_with nat_eq wanted xs ≡ true →
    accepted ≡ first (each_from (row25 dom (λ m. get_or wanted m 0)) 0 xs)
unfolding row25
none_differs dom xs wanted starts =
    let whole = (starts_is Decides-eqb wanted xs true (sym starts)).0 refl in
    sym
    (accept _
    (from_nowhere (row25 dom (λ m. get_or wanted m 0)) xs 0
    (λ m inside. rw (eq-eqb _ _ (sym (ap (λ ys. get_or ys m 0) whole ∙ get_or_append_left xs (drop (length xs) wanted) 0 m inside))))))
