-- The widest entries of all frames: the own ones, and those with one grant after another noted in them.
use Prim.Native.Nat.{ℕ, ◌≤◌, ◌<◌, max, min}
use mathlib.Core.Bool.{Bool, true, false}
use mathlib.Core.List.{List, [], ◌∷◌, ◌++◌, append-nil}
use mathlib.Core.Path.{◌≡◌, refl, sym, ap, ◌∙◌}
use native.Mathlib.Omega.{arith}
use lib.Dec.{eqb, ltb}
use lib.ListN.{length, get_or, set, take, length-take, length-set}
use lib.Seq.{get_or-set_same, get_or-set_other}
use borrow.Author.Tests.{eqb-true, eqb-false, ltb-true, ltb-false}
use Rattle.std.proofs.Common.{append_assoc, get_or-take}
use Rattle.std.specs.List.{fold}
use Rattle.authority.specs.Widest.{widest_at, own_by, widest_by, noted}
use Rattle.authority.proofs.Widest.{own_inside, own_past, more, elsewhere}
use Rattle.grant.specs.declared.Grant.{Grant}
use Rattle.layout.specs.Size.{entries}

module _ (frames : List (List ℕ)) (dom : ℕ) where
  -- of each frame by these grants
  abbrev pub Widest : List Grant → List ℕ → Type 0
  Widest grants xs = (m : ℕ) → m < entries → get_or xs m 0 ≡ widest_at frames grants dom m

  -- the frames that are listed are written, as far as there are entries, and the others are 0
  pub own_all :
      (count i : ℕ) (xs : List ℕ) → count ≡ min (length frames) entries → length (take count frames) ≤ i →
      ((j : ℕ) → j < i → get_or xs j 0 ≡ own_by dom (get_or (take count frames) j [])) →
      ((j : ℕ) → i ≤ j → j < entries → get_or xs j 0 ≡ 0) → i ≤ length (take count frames) → Widest [] xs
  own_all count i xs e all written blank far m inside = go (ltb m i) refl
    where
      long : length (take count frames) ≡ min count (length frames)
      long = length-take count frames

      go : (b : Bool) → ltb m i ≡ b → get_or xs m 0 ≡ widest_at frames [] dom m
      go true t =
          let below = ltb-true m i t in
          written m below
          ∙ ap (own_by dom) (get_or-take count frames m [] (omega (arith, below, far, long)))
          ∙ sym (own_inside frames dom m (omega (arith, below, far, long)))
      go false t =
          let from = ltb-false m i t in
          blank m from inside ∙ sym (own_past frames dom m (omega (arith, from, all, long, e, inside)))

  one : (m : ℕ) (xs : List ℕ) (g : Grant) → m < length xs → get_or (noted frames dom xs g) m 0 ≡ max (get_or xs m 0) (widest_by frames dom m g)
  one m xs g inside = go (eqb g.frame m) refl
    where
      wider : ℕ
      wider = max (get_or xs g.frame 0) (widest_by frames dom g.frame g)

      go : (b : Bool) → eqb g.frame m ≡ b → get_or (set xs g.frame wider) m 0 ≡ max (get_or xs m 0) (widest_by frames dom m g)
      go true t =
          let here = eqb-true g.frame m t in
          rw (sym here) (get_or-set_same xs g.frame wider 0 (omega (arith, here, inside)))
      go false t =
          let other = eqb-false g.frame m t in
          get_or-set_other xs g.frame m wider 0 (λ q. other (sym q)) ∙ rw (elsewhere frames dom m g other) (omega arith)

  noted_more :
      (done grants : List Grant) (xs : List ℕ) → length xs ≡ entries → Widest done xs →
      Widest (done ++ grants) (fold (noted frames dom) xs grants)
  noted_more done [] xs long w = rw append-nil w
  noted_more done (g ∷ gs) xs long w =
      let after : Widest (done ++ g ∷ []) (noted frames dom xs g) =
      λ m inside.
      one m xs g (omega (arith, inside, long)) ∙ ap (λ k. max k (widest_by frames dom m g)) (w m inside) ∙ sym (more frames dom m g done)
      in
      rw append_assoc at (noted_more (done ++ g ∷ []) gs (noted frames dom xs g) (length-set xs g.frame _ ∙ long) after)

  pub noted_all :
      (grants : List Grant) (xs ys : List ℕ) → length xs ≡ entries → Widest [] xs → ys ≡ fold (noted frames dom) xs grants → Widest grants ys
  noted_all grants xs ys long w e m inside = ap (λ zs. get_or zs m 0) e ∙ noted_more [] grants xs long w m inside
