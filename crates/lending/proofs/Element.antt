-- One element of a `&κ [T]`, as steps of the kit's calculus: it lies in memory at its place, with its relation in hand (`element`), until
-- it is shut again (`shut`).
-- T is Copy (`Denote/Copied.antt`'s `Copied`): what the slice owns can then be had twice (`looks_slice`), so the slice is there again, with
-- κ's token, once the element is shut.
-- Assumes `Logic`.
use Prim.Native.Nat.{ℕ, ◌<◌}
use mathlib.Core.List.{List, [], ◌∷◌}
use lib.ListN.{length, get_or}
use seplogic.Ra.Ura.{Ura}
use mir.Syntax.{Lifetime}
use mir.Val.{Val}
use base.Fml.{Lft, Share, Fml, fsep, flft}
use types.Logic.{Logic}
use types.Kit.{Goal, Soaks, Item, Seq, Step, step, ‵, ◌⊛◌, ◌$◌, move, split, join, fsplit, fjoin}
use denote.Copied.{Copied}
use denote.Opens.{Shut}
use denote.RattleType.{RattleType}
use denote.Shadow.{pure_l, pure_i}
use denote.Laws.{Is, shows, Tells}
use denote.Memory.{cell_at, mem, shares}
use denote.Index.{place, others, row, looks_slice, shuts_slice, elem_out, elem_back}
use denote.Ref.{Bor}
use denote.Slice.{ShrSlice, shr_slice_vals, shr_slice_at}

module _ (R : RattleType) (vals : R.Denot → List Val) (ℓ : Lifetime) (κ : Lft) (q : Share) (x : Bor (List R.Denot)) (i : ℕ)
    (d : R.Denot) where
  -- element i, of which the share t lies at its place
  abbrev pub Lies : Share → Fml
  Lies t = cell_at t R.mir (vals (get_or x.now i d)) x.ref_ptr.0 (place (mem R).size x.ref_ptr.1 i)

  -- what is kept until it is shut: what it owns and the other elements, the way back of κ's token, and the slice. The way back updates by
  -- `⇛`, which no formula does, so this is an item
  module _ {M : Type 1} {𝓤 : Ura M} (𝓛 : Logic 𝓤) where
    abbrev pub Rest : Share → Item 𝓤
    Rest t =
        ‵ (fsep (R.own_val (get_or x.now i d) (vals (get_or x.now i d))) (others (shares R) t x.now i x.ref_ptr.0 x.ref_ptr.1))
        ⊛ Shut 𝓛 κ q (row R t x.now x.ref_ptr.0 x.ref_ptr.1)
        ⊛ ‵ ((ShrSlice ℓ κ R).own_val x (shr_slice_vals x))

  module _ {M : Type 1} {𝓤 : Ura M} {𝓛 : Logic 𝓤} {K : Type 0} {Γ : List (Item 𝓤)} {G : Goal 𝓤 𝓛.H} (t : K)
      (s : Soaks G) (within : i < length x.now) where
    pub element : Tells R (Is R) vals → Copied 𝓛 R
        → ((q' : Share) → Is R (get_or x.now i d) (vals (get_or x.now i d)) → Seq K 𝓛 (‵ (Lies q') ∷ Rest 𝓛 q' ∷ Γ) G)
        → Seq K 𝓛 (‵ ((ShrSlice ℓ κ R).own_val x (shr_slice_vals x)) ∷ ‵ (flft κ q) ∷ Γ) G
    element tl Cp k =
        fsplit t $ pure_l t (shr_slice_at R x (shr_slice_vals x)) (λ p. looks_slice t s R Cp x.now x.ref_ptr.0 x.ref_ptr.1
        (λ q'. elem_out t R (Is R) (shows 𝓛 R) vals tl q' x.now i d x.ref_ptr.0 x.ref_ptr.1 within (λ is.
        -- [the element; what it owns; the others; what shuts; what the slice owns; …]
        pure_i t (shr_slice_at R x (shr_slice_vals x)) (tt, (tt, tt)) p $ move t (0 ∷ 5 ∷ []) $ fjoin t $ move t (4 ∷ 0 ∷ []) $ join t $
        move t (2 ∷ 3 ∷ []) $ fjoin t $ join t $ move t (1 ∷ 0 ∷ []) $ k q' is)))

    pub shut : (q' : Share) → Step K 𝓛 (‵ ((ShrSlice ℓ κ R).own_val x (shr_slice_vals x)) ∷ ‵ (flft κ q) ∷ Γ) G (‵ (Lies q') ∷ Rest 𝓛 q' ∷ Γ) G
    shut q' = step (λ k. move t (1 ∷ []) $ split t $ fsplit t $ move t (3 ∷ 0 ∷ 1 ∷ []) $
        elem_back t R q' x.now i d (vals (get_or x.now i d)) x.ref_ptr.0 x.ref_ptr.1 within $ move t (1 ∷ []) $ split t $
        move t (2 ∷ 0 ∷ []) $ shuts_slice t s R q' x.now x.ref_ptr.0 x.ref_ptr.1 $ move t (1 ∷ 0 ∷ []) $ k)
