-- An encoded arena verifies, and does so with one other leaf word that its decoder reads alike.
use Prim.Native.Nat.{ℕ, ◌+◌, ◌≤◌, ◌<◌}
use mathlib.Core.Bool.{Bool, true, false, ◌&&◌}
use mathlib.Core.List.{List, flat_map}
use mathlib.Core.Path.{◌≡◌, refl, sym, ap, ◌∙◌}
use native.Mathlib.Omega.{arith}
use lib.Dec.{eqb}
use lib.ListN.{length-set}
use borrow.Author.Tests.{eqb-true}
use Rattle.arena.specs.Encoded.{word_at, stored, upper_runs, leaf_runs, encoded}
use Rattle.decode.specs.Decoded.{decoded_table, decoded_device}
use Rattle.fields.specs.Named.{pick}
use Rattle.layout.specs.Layout.{layout_of}
use Rattle.layout.specs.Size.{entries, table_count, first_word}
use Rattle.layout.specs.declared.Layout.{Layout}
use Rattle.refusal.specs.Table.{first, each_from, pairs}
use Rattle.rows.specs.Examples.{base_s, sup_s, scene_s}
use Rattle.rows.specs.Rows.{row2, row3, row4, row5, row6, row7, row8, row9, row10, row13, row14, length_rows, map_rows, pair_rows, window_rows}
use Rattle.rows.specs.Rows.{refusals_at, guard_rows}
use Rattle.verify_rows.specs.Verifying.{word}
use Rattle.verify_rows.specs.Word.{read_page, read_block}
use Rattle.verify_theorems.specs.Verified.{Guarding, Encoded, encoded_word, Kept, ReadAlike, EncodedVerifies, stored_at, LetsBy}
use Rattle.verify_theorems.specs.Verified.{LettingBy, VerificationS}
use Rattle.verify_theorems.proofs.Stored.{stored_word}
use Rattle.verify_theorems.proofs.Told.{halves}
use Rattle.verify_theorems.proofs.Verified.{alike_verifies}

same : {A : Type 0} (read : ℕ → A) (d w : ℕ) → d ≡ w → Kept read d w
same read d w e = (ap read e, λ z. e ∙ z)

module _ (arena base sup : List ℕ) (l : Layout) (e : Encoded arena base sup l) where
  word_of : (t j : ℕ) → t ≤ table_count → j < entries → word arena t j ≡ encoded_word l base sup t j
  word_of t j hi h = e.words (first_word t + j) (omega (arith, hi, h))

  alike : ReadAlike arena base sup l
  alike =
      record {
        long = e.long;
        window_words = λ j h. same decoded_table _ _ (word_of 1 j (omega arith) h);
        image_block = λ j h. same read_block _ _ (word_of 2 j (omega arith) h);
        data_table = λ j h. same decoded_table _ _ (word_of 3 j (omega arith) h);
        pages = λ j h. ap read_page (word_of 4 j (omega arith) h);
        supers = λ j h. ap read_block (word_of 5 j (omega arith) h);
        devices = λ j h. ap decoded_device (word_of 6 j (omega arith) h);
      }

  -- a word stored at index i of table s, which is one of leaves
  module _ (s i d : ℕ) (leaves : 3 < s) (to : s ≤ table_count) (below : i < entries) where
    abbrev after : List ℕ
    after = stored_at s i d arena

    abbrev Alike : {A : Type 0} → (ℕ → A) → ℕ → Type 0
    Alike read t = s ≡ t → read d ≡ read (encoded_word l base sup t i)

    read_after :
        {A : Type 0} (read : ℕ → A) (t : ℕ) → 1 ≤ t → t ≤ table_count → Alike read t →
        (j : ℕ) → j < entries → read (word after t j) ≡ read (encoded_word l base sup t j)
    read_after read t lo hi here j h =
        ap read (stored_word arena s i d e.long (omega (arith, leaves)) to below t j lo h) ∙ go (eqb s t && eqb i j) refl
      where
        go : (b : Bool) → (eqb s t && eqb i j) ≡ b → read (pick b d (word arena t j)) ≡ read (encoded_word l base sup t j)
        go true q =
            let p = halves (eqb s t) _ q in
            here (eqb-true s t p.0) ∙ ap (λ (n : ℕ). read (encoded_word l base sup t n)) (eqb-true i j p.1)
        go false q = ap read (word_of t j hi h)

    -- tables 1 to 3 are as they were
    kept :
        {A : Type 0} (read : ℕ → A) (t : ℕ) → 1 ≤ t → t ≤ 3 →
        (j : ℕ) → j < entries → Kept read (word after t j) (encoded_word l base sup t j)
    kept read t lo hi j h =
        same read _ _ (read_after (λ w. w) t lo (omega (arith, hi)) (λ q. absurd (omega (arith, q, hi, leaves))) j h)

    alike_after : Alike read_page 4 → Alike read_block 5 → Alike decoded_device 6 → ReadAlike after base sup l
    alike_after page super device =
        record {
          long = length-set arena _ d ∙ e.long;
          window_words = kept decoded_table 1 (omega arith) (omega arith);
          image_block = kept read_block 2 (omega arith) (omega arith);
          data_table = kept decoded_table 3 (omega arith) (omega arith);
          pages = read_after read_page 4 (omega arith) (omega arith) page;
          supers = read_after read_block 5 (omega arith) (omega arith) super;
          devices = read_after decoded_device 6 (omega arith) (omega arith) device;
        }

  module _ (j d : ℕ) (h : j < entries) where
    with_super : read_block d ≡ read_block (encoded_word l base sup 5 j) → ReadAlike (stored_at 5 j d arena) base sup l
    with_super here =
        alike_after 5 j d (omega arith) (omega arith) h (λ q. absurd (omega (arith, q))) (λ q. here) (λ q. absurd (omega (arith, q)))

    with_device : decoded_device d ≡ decoded_device (encoded_word l base sup 6 j) → ReadAlike (stored_at 6 j d arena) base sup l
    with_device here =
        alike_after 6 j d (omega arith) (omega arith) h (λ q. absurd (omega (arith, q))) (λ q. absurd (omega (arith, q))) (λ q. here)

pub encoded_verifies : EncodedVerifies
encoded_verifies arena base sup l guard e = alike_verifies arena base sup l guard (alike arena base sup l e)

pub letting_by : LettingBy
letting_by arena base sup l j d guard e h =
    record {
      empty_super = λ z n.
          alike_verifies _ base sup l guard (with_super arena base sup l e j d h (n ∙ sym (ap read_block z)));
      empty_device = λ z n.
          alike_verifies _ base sup l guard (with_device arena base sup l e j d h (n ∙ sym (ap decoded_device z)));
      device_access = λ r. alike_verifies _ base sup l guard (with_device arena base sup l e j d h r);
    }

guarding_s : Guarding base_s sup_s (layout_of scene_s)
unfolding layout_of first flat_map each_from pairs row2 row3 row4 row5 row6 row7 row8 row9 row10 row13 row14 length_rows map_rows pair_rows
    window_rows refusals_at guard_rows
guarding_s = refl

pub verification_s : VerificationS
unfolding layout_of encoded stored word_at upper_runs leaf_runs
verification_s arena e =
    let by : (j d : ℕ) → j < entries → LetsBy arena base_s sup_s (layout_of scene_s) j d =
    λ j d h. letting_by arena base_s sup_s (layout_of scene_s) j d guarding_s e h in
    record {
      word_of_table = (by 0 _ (omega arith)).empty_super refl refl;
      normal_block = (by 0x49 _ (omega arith)).empty_device refl refl;
      no_access = (by 0x48 _ (omega arith)).device_access refl;
    }
