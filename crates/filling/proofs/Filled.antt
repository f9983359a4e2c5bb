-- What a filling leaves: what a row refused stays as it is, and past row 2 it is what is filled into cleared maps. And a filling from the
-- elements that edges are read of, those from a position on being still to be placed.
use Prim.Native.Nat.{ℕ, suc, ◌+◌, ◌<◌, ◌≤◌}
use mathlib.Core.List.{List, map}
use mathlib.Core.Path.{◌≡◌, sym, ap, ◌∙◌}
use native.Mathlib.Numerals.{add-one}
use lib.ListN.{length, get_or, drop, drop_of_length-le}
use lib.Seq.{drop-cons}
use Rattle.edge.specs.declared.Edge.{Edge}
use Rattle.refusal.specs.Table.{Row, accepted, refused, first}
use Rattle.rows.specs.Rows.{length_rows}
use Rattle.filling.specs.Filling.{Filling, filling, placed, placed_all, onward, conflicts, started, filled_into, filled}
use Rattle.filling.proofs.Onward.{on, off}
use Rattle.filling.proofs.Placed.{place_none, place_next, place_stop}

module _ (frames : List (List ℕ)) (dom : ℕ) (edges : List Edge) where
  pub stopped : (f : Filling) (r : Row) → f.outcome ≡ refused r → onward conflicts (placed_all frames dom edges f) ≡ f
  stopped f r e = ap (onward conflicts) (place_stop frames dom edges f r e) ∙ off conflicts f r e

  module _ (base sup : List ℕ) where
    lent : Filling
    lent = filling base sup (first (length_rows base sup))

    pub fitting :
        first (length_rows base sup) ≡ accepted →
        filled frames dom edges base sup ≡ filled_into frames dom edges (length base) (length sup)
    unfolding lent started filled filled_into
    fitting e = ap (λ f. onward conflicts (placed_all frames dom edges f)) (on _ lent e)

    pub too_long :
        (r : Row) → first (length_rows base sup) ≡ refused r →
        filled frames dom edges base sup ≡ filling base sup (first (length_rows base sup))
    unfolding lent started filled
    too_long r e =
        ap (λ f. onward conflicts (placed_all frames dom edges f)) (off _ lent r e) ∙ stopped lent r e

-- the filling so far, from which the elements from position i on lead to what all lead to
pub record Left {E : Type 0} (read : E → Edge) (xs : List E) (frames : List (List ℕ)) (dom : ℕ) (base sup : List ℕ) (i : ℕ) (f : Filling) : Type 0 where
  pub leads : filled frames dom (map read xs) base sup ≡ onward conflicts (placed_all frames dom (map read (drop i xs)) f)

module _ {E : Type 0} {read : E → Edge} {xs : List E} {frames : List (List ℕ)} {dom : ℕ} {base sup : List ℕ} {f : Filling} where
  pub begun : f ≡ started base sup → Left read xs frames dom base sup 0 f
  unfolding filled
  begun e = record { leads = ap (λ h. onward conflicts (placed_all frames dom (map read xs) h)) (sym e) }

  module _ {i : ℕ} (left : Left read xs frames dom base sup i f) where
    pub one_placed :
        {g : Filling} (x : E) → x ≡ get_or xs i x → i < length xs → f.outcome ≡ accepted →
        g ≡ placed frames dom f (read x) → Left read xs frames dom base sup (i + 1) g
    one_placed x here inside a e =
        let rest = map read (drop (suc i) xs) in
        record {
          leads =
              rw add-one
              (left.leads
              ∙ ap (λ ys. onward conflicts (placed_all frames dom (map read ys) f)) (rw (sym here) at (drop-cons xs i x inside))
              ∙ ap (onward conflicts) (place_next frames dom (read x) rest f a ∙ ap (placed_all frames dom rest) (sym e)));
        }

    pub one_refused : (r : Row) → f.outcome ≡ refused r → f ≡ filled frames dom (map read xs) base sup
    one_refused r e = sym (left.leads ∙ stopped frames dom (map read (drop i xs)) f r e)

    pub all_placed :
        {g : Filling} → length xs ≤ i → f.outcome ≡ accepted → g ≡ conflicts f →
        g ≡ filled frames dom (map read xs) base sup
    all_placed past a e =
        e
        ∙ sym
        (left.leads
        ∙ ap (λ ys. onward conflicts (placed_all frames dom (map read ys) f)) (drop_of_length-le xs past)
        ∙ ap (onward conflicts) (place_none frames dom f)
        ∙ on conflicts f a)
