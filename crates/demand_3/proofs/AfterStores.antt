-- The words after k stores: where each stands, and what one store more changes.
use Prim.Native.Nat.{ℕ, suc, ◌+◌, ◌-◌, ◌≤◌, ◌<◌}
use mathlib.Core.Bool.{Bool, true, false}
use mathlib.Core.List.{List}
use mathlib.Core.Logic.{inl, inr}
use mathlib.Core.Path.{◌≡◌, refl, sym, ap, subst, ◌∙◌}
use native.Mathlib.Omega.{arith}
use lib.Dec.{eqb, leb, ltb}
use lib.ListN.{length, get_or, set}
use lib.Seq.{get_or-set_same, get_or-set_other}
use borrow.Author.Tests.{eqb-true, eqb-false, leb-true, leb-false, ltb-true, ltb-false, le-leb, lt-leb, lt-ltb, le-ltb}
use Rattle.arena.specs.Encoded.{target}
use Rattle.fields.specs.Named.{pick}
use Rattle.layout.specs.Size.{arena_length}
use Rattle.manual.proofs.OneDescent.{Either}
use Rattle.update.specs.Step.{halfway, step_count, place_of, stored_by}
use Rattle.demand_3.specs.Sources.{Source}
use Rattle.demand_3.specs.WordByWord.{target_from, word_after}

module _ (k : ℕ) (old : List ℕ) (s : Source) (i : ℕ) where
  pub zeroed : k ≤ halfway → i < k → word_after k old s i ≡ 0
  unfolding word_after
  zeroed h b = rw (le-leb _ _ h, lt-ltb _ _ b)

  pub untouched : k ≤ halfway → k ≤ i → word_after k old s i ≡ get_or old i 0
  unfolding word_after
  untouched h b = rw (le-leb _ _ h, le-ltb _ _ b)

  pub stored : halfway < k → step_count ≤ i + k → word_after k old s i ≡ target_from s i
  unfolding word_after
  stored h b = let c : step_count - k ≤ i = omega arith in rw (lt-leb _ _ h, le-leb _ _ c)

  pub awaited : halfway < k → i + k < step_count → word_after k old s i ≡ 0
  unfolding word_after
  awaited h b = let c : i < step_count - k = omega arith in rw (lt-leb _ _ h, lt-leb _ _ c)

  -- past half-way, and there
  pub from_halfway : halfway ≤ k → i < arena_length → Either (word_after k old s i) (target_from s i) 0
  from_halfway h b = go (leb k halfway) (leb step_count (i + k)) refl refl
    where
      go :
          (c d : Bool) → leb k halfway ≡ c → leb step_count (i + k) ≡ d →
          Either (word_after k old s i) (target_from s i) 0
      go true d p q = let e = leb-true _ _ p in inr (zeroed e (omega arith))
      go false true p q = inl (stored (leb-false _ _ p) (leb-true _ _ q))
      go false false p q = inr (awaited (leb-false _ _ p) (leb-false _ _ q))

-- one store more
module _ (k : ℕ) (old : List ℕ) (s : Source) (fits : k < step_count) (i : ℕ) where
  below_zeroed : k < halfway → i < k → word_after k old s i ≡ word_after (suc k) old s i
  below_zeroed h b = zeroed k old s i (omega arith) b ∙ sym (zeroed (suc k) old s i h (omega arith))

  above_zeroed : k < halfway → k < i → word_after k old s i ≡ word_after (suc k) old s i
  above_zeroed h b = untouched k old s i (omega arith) (omega arith) ∙ sym (untouched (suc k) old s i h b)

  pub next_zero : k < halfway → (i ≡ k → ⊥) → word_after k old s i ≡ word_after (suc k) old s i
  next_zero h ne = go (ltb i k) refl
    where
      go : (b : Bool) → ltb i k ≡ b → word_after k old s i ≡ word_after (suc k) old s i
      go true p = below_zeroed h (ltb-true _ _ p)
      go false p = above_zeroed h (omega (arith, ltb-false i k p, ne))

  below_stored : halfway ≤ k → i < step_count - 1 - k → word_after k old s i ≡ word_after (suc k) old s i
  below_stored h b = go (leb k halfway) refl
    where
      later : word_after (suc k) old s i ≡ 0
      later = awaited (suc k) old s i (omega arith) (omega arith)

      go : (c : Bool) → leb k halfway ≡ c → word_after k old s i ≡ word_after (suc k) old s i
      go true p = zeroed k old s i (leb-true _ _ p) (omega (arith, leb-true k halfway p)) ∙ sym later
      go false p = awaited k old s i (leb-false _ _ p) (omega arith) ∙ sym later

  above_stored : halfway ≤ k → i < arena_length → step_count - 1 - k < i → word_after k old s i ≡ word_after (suc k) old s i
  above_stored h a b =
      stored k old s i (omega arith) (omega arith) ∙ sym (stored (suc k) old s i (omega arith) (omega arith))

  pub next_stored :
      halfway ≤ k → i < arena_length → (i ≡ step_count - 1 - k → ⊥) → word_after k old s i ≡ word_after (suc k) old s i
  next_stored h a ne = go (ltb i (step_count - 1 - k)) refl
    where
      go : (b : Bool) → ltb i (step_count - 1 - k) ≡ b → word_after k old s i ≡ word_after (suc k) old s i
      go true p = below_stored h (ltb-true _ _ p)
      go false p = above_stored h a (omega (arith, ltb-false i (step_count - 1 - k) p, ne))

module _ (k : ℕ) (old : List ℕ) (s : Source) (fits : k < step_count) where
  module _
      (base sup words : List ℕ) (long : length words ≡ arena_length)
      (same : (i : ℕ) → target s.layout base sup i ≡ target_from s i)
      (here : (i : ℕ) → i < arena_length → get_or words i 0 ≡ word_after k old s i)
    where
      -- at the place of step k, and elsewhere
      pub one_more :
          (i : ℕ) → i < arena_length →
          get_or (set words (place_of k) (stored_by s.layout base sup k)) i 0 ≡ word_after (suc k) old s i
      one_more i b = go (ltb k halfway) refl
        where
          at : (place word : ℕ) → (place ≡ i → word ≡ word_after (suc k) old s i)
              → ((i ≡ place → ⊥) → word_after k old s i ≡ word_after (suc k) old s i)
              → get_or (set words place word) i 0 ≡ word_after (suc k) old s i
          at place word hit miss = choose (eqb i place) refl
            where
              choose : (c : Bool) → eqb i place ≡ c → get_or (set words place word) i 0 ≡ word_after (suc k) old s i
              choose true e =
                  let p = eqb-true _ _ e in
                  subst (λ (j : ℕ). get_or (set words j word) i 0 ≡ word_after (suc k) old s i) p
                  (get_or-set_same words i word 0 (omega (arith, long)) ∙ hit (sym p))
              choose false e = let ne = eqb-false _ _ e in get_or-set_other words place i word 0 ne ∙ here i b ∙ miss ne

          go : (c : Bool) → ltb k halfway ≡ c
              → get_or (set words (pick c k (step_count - 1 - k)) (pick c 0 (target s.layout base sup (step_count - 1 - k)))) i 0
              ≡ word_after (suc k) old s i
          go true e =
              let h = ltb-true _ _ e in
              at k 0 (λ p. sym (zeroed (suc k) old s i h (omega (arith, p)))) (next_zero k old s fits i h)
          go false e =
              let h = ltb-false _ _ e in
              at (step_count - 1 - k) (target s.layout base sup (step_count - 1 - k))
              (λ p. ap (target s.layout base sup) p ∙ same i ∙ sym (stored (suc k) old s i (omega arith) (omega (arith, p))))
              (next_stored k old s fits i h b)
