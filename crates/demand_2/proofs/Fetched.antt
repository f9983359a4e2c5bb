-- A fetch that names one of several distinct tables, none absent before it, reads that table's words, whatever stands outside.
use Prim.Native.Nat.{ℕ, zero, suc, ◌+◌, ◌*◌, ◌<◌}
use mathlib.Core.Bool.{Bool, true, false, ◌&&◌, false≢true}
use mathlib.Core.List.{List, [], ◌∷◌, map}
use mathlib.Core.Path.{◌≡◌, refl, ap, ◌∙◌}
use native.Mathlib.Nat.{le_of_suc-le-suc, not-suc-le-zero}
use native.Mathlib.Omega.{arith}
use lib.ListN.{length, get_or, take}
use borrow.Author.Tests.{eq-eqb, ne_eqb}
use Rattle.accepted_facts.specs.Guarded.{Distinct}
use Rattle.descent.specs.Descent.{Words, fetch_from}
use Rattle.layout.specs.Size.{entries}
use Rattle.layout.specs.declared.Table.{Table}
use Rattle.refusal.proofs.All.{all_at}
use Rattle.refusal.specs.All.{AllPairs}

pub both : (a b : Bool) → (a && b) ≡ true → (a ≡ true) × (b ≡ true)
both true b e = (refl, e)
both false b e = absurd (false≢true e)

abbrev pub all_present : List Table → Bool
all_present [] = true
all_present (t ∷ ts) = t.present && all_present ts

pub present_at :
    (ts : List Table) (k : ℕ) (d : Table) → k < length ts → all_present (take (suc k) ts) ≡ true → (get_or ts k d).present ≡ true
present_at [] k d h there = absurd (not-suc-le-zero h)
present_at (t ∷ ts) zero d h there = (both t.present true there).0
present_at (t ∷ ts) (suc k) d h there =
    present_at ts k d (le_of_suc-le-suc h) (both t.present (all_present (take (suc k) ts)) there).1

pub fetched :
    (ts : List Table) (k from outside : ℕ) (d : Table) (words : Words) (j : ℕ) →
    k < length ts →
    all_present (take (suc k) ts) ≡ true →
    AllPairs Distinct ts →
    fetch_from from outside (map (λ t. t.pa) ts) words (get_or ts k d).pa j ≡ words (from + (k * entries + j))
unfolding fetch_from
fetched [] k from outside d words j h there distinct = absurd (not-suc-le-zero h)
fetched (t ∷ ts) zero from outside d words j h there distinct =
    let e : from + j ≡ from + (0 * entries + j) = omega arith in rw (eq-eqb t.pa t.pa refl) (ap words e)
fetched (t ∷ ts) (suc k) from outside d words j h there distinct =
    let less = le_of_suc-le-suc h in
    let is = both t.present (all_present (take (suc k) ts)) there in
    let ne = all_at (Distinct t) ts k d less distinct.0 is.0 (present_at ts k d less is.1) in
    let e : from + entries + (k * entries + j) ≡ from + (suc k * entries + j) = omega arith in
    rw (ne_eqb _ _ ne) (fetched ts k (from + entries) outside d words j less is.1 distinct.1 ∙ ap words e)
