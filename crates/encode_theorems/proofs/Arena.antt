-- Encoded arenas: the runs stored over an old word are the runs stored over zero, or the old word.
use Prim.Native.Nat.{ℕ, ◌<◌}
use mathlib.Core.Bool.{Bool, true, false}
use mathlib.Core.List.{List, [], ◌∷◌}
use mathlib.Core.Path.{◌≡◌, refl, sym, ap, ◌∙◌}
use native.Mathlib.Omega.{arith}
use lib.Dec.{eqb}
use lib.ListN.{length, get_or, replicate, get_or-replicate, length-replicate}
use lib.Seq.{ext_get_or}
use Rattle.arena.proofs.At.{overwrite_zero, cleared_zero}
use Rattle.arena.specs.Encoded.{Run, overwrite, word_at, stored, runs_of, cleared, encoded}
use Rattle.fields.specs.Named.{pick}
use Rattle.layout.specs.Size.{arena_length}
use Rattle.encode_theorems.specs.Arena.{OldWords, FromZeros, RefusedKeeps}

over_over : (old w x : ℕ) → overwrite (overwrite old w) x ≡ overwrite old (overwrite w x)
over_over old w x = go (eqb x 0) refl
  where
    go : (b : Bool) → eqb x 0 ≡ b → pick b (overwrite old w) x ≡ overwrite old (pick b w x)
    go true e = refl
    go false e = sym (rw e)

stored_over : (rs : List Run) (i old : ℕ) → stored rs i old ≡ overwrite old (stored rs i 0)
unfolding stored
stored_over [] i old = refl
stored_over (r ∷ rs) i old =
    stored_over rs i (overwrite old (word_at r i))
    ∙ over_over old (word_at r i) (stored rs i 0)
    ∙ ap (overwrite old)
    (ap (λ w. overwrite w (stored rs i 0)) (sym (overwrite_zero (word_at r i)))
    ∙ sym (stored_over rs i (overwrite 0 (word_at r i))))

pub old_words : OldWords
unfolding encoded
old_words l base sup i old =
    stored_over (runs_of l base sup) i (cleared i old)
    ∙ ap (λ z. overwrite (cleared i old) (stored (runs_of l base sup) i z)) (sym (cleared_zero i))

zeroed : (i : ℕ) → i < length {A = ℕ} (replicate arena_length 0) → ◌≡◌ {A = ℕ} (get_or (replicate arena_length 0) i 0) 0
zeroed i h =
    let long = length-replicate {A = ℕ} arena_length 0 in get_or-replicate {A = ℕ} arena_length i 0 0 (omega (arith, h, long))

pub from_zeros : FromZeros
from_zeros limit l base sup new e =
    record {
      long = e.words.long;
      word = λ i h. e.words.word i h ∙ ap (encoded l base sup i) (zeroed i h);
    }

pub refused_keeps : RefusedKeeps
refused_keeps limit l base sup old new r e =
    ext_get_or 0 new old e.words.long (λ i h. e.words.word i (omega (arith, h, e.words.long)))
