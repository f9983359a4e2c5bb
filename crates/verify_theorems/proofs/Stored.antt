-- A place of an arena in which one word was stored is read as that word, or as it was.
use Prim.Native.Nat.{ℕ, ◌+◌, ◌≤◌, ◌<◌}
use mathlib.Core.Bool.{Bool, true, false, ◌&&◌}
use mathlib.Core.List.{List}
use mathlib.Core.Path.{◌≡◌, refl, ap, ◌∙◌}
use native.Mathlib.Omega.{arith}
use lib.Dec.{eqb}
use lib.ListN.{length, get_or}
use lib.Seq.{get_or-set_same, get_or-set_other}
use borrow.Author.Tests.{eq-eqb, eqb-true}
use Rattle.fields.specs.Named.{pick}
use Rattle.layout.specs.Size.{entries, table_count, arena_length, first_word}
use Rattle.verify_rows.specs.Verifying.{word}
use Rattle.verify_theorems.specs.Verified.{stored_at}
use Rattle.verify_theorems.proofs.Told.{halves}

-- at index i of table s
module _ (arena : List ℕ) (s i d : ℕ) (long : length arena ≡ arena_length) (from : 1 ≤ s) (to : s ≤ table_count) (below : i < entries) where
  pub stored_word :
      (t j : ℕ) → 1 ≤ t → j < entries → word (stored_at s i d arena) t j ≡ pick (eqb s t && eqb i j) d (word arena t j)
  stored_word t j lo h = go (eqb s t && eqb i j) refl
    where
      go : (b : Bool) → (eqb s t && eqb i j) ≡ b → word (stored_at s i d arena) t j ≡ pick b d (word arena t j)
      go true q =
          let both_Equal = halves (eqb s t) _ q in
          let same-table = eqb-true s t both_Equal.0 in
          let same_index = eqb-true i j both_Equal.1 in
          let here : first_word t + j ≡ first_word s + i = omega (arith, same-table, same_index) in
          let there : first_word s + i < length arena = omega (arith, long, from, to, below) in
          ap (λ (n : ℕ). get_or (stored_at s i d arena) n 0) here ∙ get_or-set_same arena (first_word s + i) d 0 there
      go false q =
          let apart : (first_word t + j ≡ first_word s + i → ⊥) =
          λ p.
          let same-table : s ≡ t = omega (arith, p, lo, from, below, h) in
          let same_index : i ≡ j = omega (arith, p, same-table) in
          let wrongly : (eqb s t && eqb i j) ≡ true = rw (eq-eqb s t same-table, eq-eqb i j same_index) in
          absurd (let z : ◌≡◌ {A = ℕ} 0 1 = cc in omega arith) in
          get_or-set_other arena (first_word s + i) _ d 0 apart
