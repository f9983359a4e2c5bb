-- An array in a local that is lent as a `&mut [T]` for one call and is back after it, as steps of the kit's calculus (`lends_local`,
-- `local_back`): its elements are lent for a lifetime ν that is made for the call and ended after it.
-- Assumes `Logic`.
use mathlib.Core.Path.{refl, sym, subst}
use Prim.Native.Nat.{ℕ}
use mathlib.Core.List.{List, [], ◌∷◌}
use lib.ListN.{length}
use seplogic.Ra.Ura.{Ura}
use base.Fraction.{full_share}
use mir.Syntax.{Lifetime}
use mir.Val.{Val}
use base.Fml.{GName, Fml, fsep, flft, flent}
use types.Logic.{Logic}
use types.Kit.{Goal, Soaks, Item, Seq, ‵, ◌⊛◌, some, later, ◌$◌, move, use1, use3, split, pick, rewrite, fsplit, fjoin, fpick}
use types.Kit.{fpack, feq_l, feq_i, await}
use types.SemTy.{cells, Arr}
use types.Share.{arr_parts}
use types.Tokens.{lft_new, lft_end}
use denote.RattleType.{RattleType}
use denote.Laws.{Is, shows, Tells, Makes}
use denote.Array.{Array, array_vals, Array-Tells, Array-Makes}
use denote.ArrayMemory.{Single, Array-apart, Array-whole}
use denote.Index.{row, whole_in, whole_out}
use denote.Lend.{Held, lends_slice, slice_back}
use denote.Memory.{cell_at, mem, part_of, part_at, shares}
use denote.Ref.{MutBor}
use denote.Slice.{slice_val, MutSlice, Room, finally}
use denote.Steps.{owned, facts}

module _ (R : RattleType) (n l : ℕ) where
  -- the array as it lies in the local l, at the machine values vs
  abbrev pub Local : List Val → Fml
  Local vs = cell_at full_share (Array R n).mir vs l 0

  -- the slice of its elements, under the name δ; and what is kept of the local while it is lent for ν
  abbrev pub elements : GName → List R.Denot → MutBor (List R.Denot)
  elements δ xs = record { ref_ptr = (l, 0); ghost_name = δ; now = xs }

  abbrev pub Kept : ℕ → GName → Fml
  Kept ν δ = flent (ν ∷ []) (Held R n l 0 δ)

  abbrev Lying : List R.Denot → List Val → Fml
  Lying xs vs = fsep (Local vs) ((Array R n).own_val xs vs)

  module _ {M : Type 1} {𝓤 : Ura M} {𝓛 : Logic 𝓤} {K : Type 0} {Γ : List (Item 𝓤)} {G : Goal 𝓤 𝓛.H} (t : K)
      (s : Soaks G) where
    pub lends_local : (ℓ : Lifetime) (xs : List R.Denot) (vs : List Val) → Single R.mir → Room R n → Makes 𝓛 R (Is R)
        → Is (Array R n) xs vs
        → ((ν : ℕ) (δ : GName) → Seq K 𝓛
        (‵ (flft (ν ∷ []) full_share) ∷ ‵ ((MutSlice ℓ (ν ∷ []) R).own_val (elements δ xs) (slice_val (l, 0) n ∷ [])) ∷ ‵ (Kept ν δ) ∷ Γ) G)
        → Seq K 𝓛 (‵ (Local vs) ∷ Γ) G
    unfolding part_of
    lends_local ℓ xs vs one room makes is k =
        owned t (Array R n) (Is (Array R n)) (Array-Makes 𝓛 R makes n) xs vs is $ move t (1 ∷ 0 ∷ []) $ fjoin t $
        fpack t (List Val) (Lying xs) vs $
        use1 𝓛 (‵ ((arr_parts (shares R) n).part full_share xs l 0)) (Array-apart 𝓛 R full_share one n xs l 0) $ fsplit t $ feq_l t (λ e.
        use1 𝓛 (‵ (cells (mem R) xs l 0)) (whole_in 𝓛 R xs l 0) $ lft_new t s (λ ν. move t (1 ∷ []) $
        use1 𝓛 (later (some (λ (δ : GName). ‵ ((MutSlice ℓ (ν ∷ []) R).own_val (elements δ xs) (slice_val (l, 0) (length xs) ∷ []))
        ⊛ ‵ (flent (ν ∷ []) (Held R (length xs) l 0 δ)))))
        (lends_slice 𝓛 R ℓ (ν ∷ []) xs l 0 (subst (Room R) (sym e) room)) $ await t s $ pick t (λ δ. split t $
        -- [the slice; the lender's part; ν's token; …]
        rewrite t 0 (λ (m : ℕ). ‵ ((MutSlice ℓ (ν ∷ []) R).own_val (elements δ xs) (slice_val (l, 0) m ∷ []))) e refl $
        rewrite t 1 (λ (m : ℕ). ‵ (flent (ν ∷ []) (Held R m l 0 δ))) e refl $
        move t (2 ∷ []) $ k ν δ)))

    pub local_back : (vals : R.Denot → List Val) → Tells R (Is R) vals → (ν : ℕ) (δ : GName) (zs : List R.Denot)
        → (Is (Array R n) zs (array_vals vals zs) → Seq K 𝓛 (‵ (Local (array_vals vals zs)) ∷ Γ) G)
        → Seq K 𝓛 (‵ (flft (ν ∷ []) full_share) ∷ ‵ (Kept ν δ) ∷ ‵ (finally R δ zs) ∷ Γ) G
    unfolding part_of
    local_back vals tells ν δ zs k =
        lft_end t s $ use3 𝓛 (later (‵ ((Arr (mem R) n).own_at zs l 0))) (slice_back 𝓛 R (ν ∷ []) δ zs n l 0) $ await t s $ fsplit t $
        feq_l t (λ e.
        use1 𝓛 (‵ (row R full_share zs l 0)) (whole_out 𝓛 R zs l 0) $ feq_i t ℕ (length zs) n e $ fjoin t $
        use1 𝓛 (‵ (part_at (Array R n) full_share zs l 0)) (Array-whole 𝓛 R full_share n zs l 0) $
        fpick t (λ vs. fsplit t $ move t (1 ∷ []) $
        facts t (Array R n) (Is (Array R n)) (shows 𝓛 (Array R n)) zs vs (λ is.
        let told = Array-Tells R vals tells n zs vs is in
        rewrite t 0 (λ (us : List Val). ‵ (Local us)) told refl $ k (subst (Is (Array R n) zs) told is))))
