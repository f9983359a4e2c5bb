-- A `&κ mut [T]` that is lent for one call and is back after it, as steps of the kit's calculus: as `&mut` (`lends`, `back`) and as `&`
-- (`shares`, `unshares`).
-- The lifetime ν is made for the call and ended after it. What the holder keeps meanwhile is `Again.antt`'s `LentAgain`, or `SharedAgain`
-- here.
-- A `&` is made of the elements by T's law at κ (`Denote/Shares.antt`'s `Shares`, and its `Shares-less` where the law is had at the meet of
-- the lifetimes of T's `&mut`s, within which κ is). The law takes a token of κ, so half of κ's token opens the borrow, and the other half
-- serves the law. Of a `Copied` T the law is `Cp.shares full_share κ`.
-- Assumes `Logic`.
use mathlib.Core.Path.{◌≡◌, refl, sym}
use Prim.Native.Nat.{ℕ}
use mathlib.Core.List.{List, [], ◌∷◌}
use lib.ListN.{length}
use seplogic.Ra.Ura.{Ura}
use base.Fraction.{full_share}
use base.Share
use mir.Syntax.{Lifetime}
use mir.Val.{Val}
use base.Fml.{Lft, GName, Share, Fml, fsep, flft, fobs, fauth, flent, fobor}
use types.Logic.{Logic}
use types.Kit.{Goal, Soaks, Item, Seq, Step, step, ‵, ◌⊛◌, some, later, ◌$◌, move, use1, use2, use3, drop, split, pick, rewrite}
use types.Kit.{join, fsplit, fjoin, feq_i, await}
use contract.BorrowLft.{meet_⊑_left, meet_⊑_right}
use types.Share.{arr_parts}
use types.Tokens.{lft_new, lft_end, lent_back}
use denote.RattleType.{RattleType}
use denote.Shadow.{pure_l, pure_i}
use denote.Memory.{shares as shared}
use denote.Ref.{MutBor, as_bor}
use denote.Shares.{Shares}
use denote.Slice.{MutSlice, ShrSlice, Room, heres, finally, mut_slice_at, coded_holeys, mut_slice_vals}
use denote.Index.{opens_slice, closes_slice}
use denote.Lend.{Held, lends_shr_slice}
use Rattle.lending.proofs.Again.{LentAgain, lends_again, comes_back}

module _ (R : RattleType) where
  abbrev Slice : Type 0
  Slice = MutBor (List R.Denot)

  -- the slice x under another name, and at another list
  abbrev pub renamed : GName → Slice → Slice
  renamed δ x = record { ref_ptr = x.ref_ptr; ghost_name = δ; now = x.now }

  abbrev pub holding : List R.Denot → Slice → Slice
  holding zs x = record { ref_ptr = x.ref_ptr; ghost_name = x.ghost_name; now = zs }

  -- what the holder of x at κ keeps while it is lent for ν under δ
  abbrev pub Keeps : Lft → Share → ℕ → GName → Slice → Fml
  Keeps κ q ν δ x = LentAgain R κ (ν ∷ []) q x.ghost_name x.ref_ptr.0 x.ref_ptr.1 δ x.now

  abbrev Elements : Share → Slice → Fml
  Elements t x = (arr_parts (shared R) (length x.now)).part t x.now x.ref_ptr.0 x.ref_ptr.1

  -- what the holder of x at κ keeps while it is lent as `&` for ν
  abbrev pub SharedAgain : Lft → Share → ℕ → Slice → Fml
  SharedAgain κ q ν x =
      fsep (flent (ν ∷ []) (Elements full_share x))
      (fsep (fobor κ (Share.left q) (Held R (length x.now) x.ref_ptr.0 x.ref_ptr.1 x.ghost_name))
      (fsep (flft κ (Share.right q))
      (fsep (fobs x.ghost_name ((coded_holeys R).code (heres R x.now))) (fauth x.ghost_name ((coded_holeys R).code (heres R x.now))))))

  -- vs are the machine values of x, as its length is known
  module _ {M : Type 1} {𝓤 : Ura M} {𝓛 : Logic 𝓤} {K : Type 0} {Γ : List (Item 𝓤)} {G : Goal 𝓤 𝓛.H} (t : K)
      (s : Soaks G) (ℓ ℓ' : Lifetime) (κ : Lft) (q : Share) (x : Slice) (vs : List Val) (is : vs ≡ mut_slice_vals x) where
    pub lends : ((ν : ℕ) (δ : GName)
        → Seq K 𝓛 (‵ (flft (ν ∷ []) full_share) ∷ ‵ ((MutSlice ℓ' (ν ∷ []) R).own_val (renamed δ x) vs) ∷ ‵ (Keeps κ q ν δ x) ∷ Γ) G)
        → Seq K 𝓛 (‵ ((MutSlice ℓ κ R).own_val x vs) ∷ ‵ (flft κ q) ∷ Γ) G
    lends k =
        rewrite t 0 (λ (us : List Val). ‵ ((MutSlice ℓ κ R).own_val x us)) is refl $ lft_new t s (λ ν. move t (1 ∷ 2 ∷ []) $
        use2 𝓛 (later (some (λ (δ : GName). ‵ ((MutSlice ℓ' (ν ∷ []) R).own_val (renamed δ x) (mut_slice_vals x)) ⊛ ‵ (Keeps κ q ν δ x))))
        (lends_again R κ (ν ∷ []) q x.ghost_name x.ref_ptr.0 x.ref_ptr.1 𝓛 ℓ ℓ' x.now) $
        await t s $ pick t (λ δ. split t $ rewrite t 0 (λ (us : List Val). ‵ ((MutSlice ℓ' (ν ∷ []) R).own_val (renamed δ x) us)) (sym is) refl $
        move t (2 ∷ []) $ k ν δ))

    pub back : (ν : ℕ) (δ : GName) (zs : List R.Denot) → Room R (length x.now) → length zs ≡ length x.now
        → Step K 𝓛 (‵ ((MutSlice ℓ κ R).own_val (holding zs x) vs) ∷ ‵ (flft κ q) ∷ Γ) G
        (‵ (flft (ν ∷ []) full_share) ∷ ‵ (Keeps κ q ν δ x) ∷ ‵ (finally R δ zs) ∷ Γ) G
    back ν δ zs room e = step (λ k. lft_end t s $
        use3 𝓛 (later (‵ ((MutSlice ℓ κ R).own_val (holding zs x) (mut_slice_vals x)) ⊛ ‵ (flft κ q)))
        (comes_back R κ (ν ∷ []) q x.ghost_name x.ref_ptr.0 x.ref_ptr.1 𝓛 ℓ ℓ' x.now δ zs room e) $ await t s $ split t $
        rewrite t 0 (λ (us : List Val). ‵ ((MutSlice ℓ κ R).own_val (holding zs x) us)) (sym is) refl $ k)

    pub shares : Shares 𝓛 R κ
        → ((ν : ℕ)
        → Seq K 𝓛 (‵ (flft (ν ∷ []) full_share) ∷ ‵ ((ShrSlice ℓ' (ν ∷ []) R).own_val (as_bor x) vs) ∷ ‵ (SharedAgain κ q ν x) ∷ Γ) G)
        → Seq K 𝓛 (‵ ((MutSlice ℓ κ R).own_val x vs) ∷ ‵ (flft κ q) ∷ Γ) G
    shares law k =
        move t (1 ∷ []) $ use1 𝓛 (‵ (flft κ (Share.left q)) ⊛ ‵ (flft κ (Share.right q))) (𝓛.lfts.lft_split κ q) $ split t $
        move t (2 ∷ 0 ∷ []) $ fsplit t $ pure_l t (mut_slice_at R x vs)
        (λ p. fsplit t $ opens_slice t s R x.now x.ref_ptr.0 x.ref_ptr.1 $ feq_i t ℕ (length x.now) (length x.now) refl $ fjoin t $
        -- [the elements; the open borrow at κ; obs; auth; the other half of κ's token; …]
        lft_new t s (λ ν. move t (0 ∷ 5 ∷ []) $ join t $ move t (1 ∷ 0 ∷ []) $
        use2 𝓛 (later ((‵ ((ShrSlice ℓ' (ν ∷ []) R).own_val (as_bor x) (mut_slice_vals x)) ⊛ ‵ (flent (ν ∷ []) (Elements full_share x)))
        ⊛ (‵ (flft (ν ∷ []) full_share) ⊛ ‵ (flft κ (Share.right q)))))
        (lends_shr_slice 𝓛 R ℓ' (ν ∷ []) full_share x.now x.ref_ptr.0 x.ref_ptr.1 p.1 κ law
        ((ν ∷ [], full_share) ∷ (κ, Share.right q) ∷ []) (meet_⊑_right (ν ∷ []) κ) (meet_⊑_left (ν ∷ []) κ)) $
        await t s $ split t $ split t $ rewrite t 0 (λ (us : List Val). ‵ ((ShrSlice ℓ' (ν ∷ []) R).own_val (as_bor x) us)) (sym is) refl $
        move t (2 ∷ []) $ split t $
        -- [ν's token; the half of κ's; the `&`; the lender's part; the open borrow; obs; auth; …]
        move t (5 ∷ 6 ∷ []) $ fjoin t $ move t (2 ∷ 0 ∷ []) $ fjoin t $ move t (4 ∷ 0 ∷ []) $ fjoin t $ move t (3 ∷ 0 ∷ []) $ fjoin t $
        move t (1 ∷ 2 ∷ 0 ∷ []) $ k ν))

    pub unshares : (ν : ℕ) → Room R (length x.now)
        → Step K 𝓛 (‵ ((MutSlice ℓ κ R).own_val x vs) ∷ ‵ (flft κ q) ∷ Γ) G (‵ (flft (ν ∷ []) full_share) ∷ ‵ (SharedAgain κ q ν x) ∷ Γ) G
    unshares ν room = step (λ k. lft_end t s $ move t (1 ∷ []) $ fsplit t $ move t (2 ∷ 0 ∷ []) $ lent_back t s $ fsplit t $ drop t $
        move t (1 ∷ []) $ fsplit t $ move t (1 ∷ []) $ fsplit t $ move t (1 ∷ []) $ fsplit t $ move t (4 ∷ 3 ∷ 0 ∷ 1 ∷ []) $
        closes_slice t s R x.now x.now refl x.ref_ptr.0 x.ref_ptr.1 $ fjoin t $ pure_i t (mut_slice_at R x vs) (tt, (tt, tt)) (is, room) $
        fjoin t $ move t (1 ∷ 2 ∷ []) $ use2 𝓛 (‵ (flft κ q)) (𝓛.lfts.lft_join κ q) $ move t (1 ∷ 0 ∷ []) $ k)
