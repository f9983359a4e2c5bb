-- What is read piece by piece is what the lines of the text say: by the bytes that are left. A line of which bytes are dropped is longer
-- than any that says something.
use Rattle.std.proofs.Common.{ℕ, ◌<◌, Bool, true, false, List, [], ◌∷◌, ◌++◌, ◌≡◌, refl, sym, ap, ◌∙◌, arith, eqb, ltb, length, take, length-take}
use Rattle.std.proofs.Math.Seq.{take_all, take-nil, take-append-le, length-take-le}
use Rattle.std.proofs.lemmas.List.Folds.{fold_stays}
use Rattle.std.proofs.lemmas.List.Sums.{fold-append}
use Rattle.std.specs.Prelude.{fold}
use borrow.Author.Tests.{ltb-true, ltb-false}
use Rattle.fields.specs.Ascii.{line_feed}
use Rattle.fields.specs.Named.{pick}
use Rattle.scene.specs.Scene.{Scene}
use Rattle.scene_line.proofs.Long.{long_says_nothing}
use Rattle.scene_line.specs.Line.{line_of}
use Rattle.scene_text.specs.Reading.{reading, read_on, taken, taken_all, finished, ReadsLines, ReadsPieces}
use Rattle.scene_text.specs.Text.{Read, whole, bad_line, heard, with_byte, with_line, lines_of, read_from}
use Rattle.scene_text.proofs.Kept.{last_line, stays}

pub reads_pieces : ReadsPieces
unfolding taken_all
reads_pieces room r piece next = fold-append (taken room) r piece next

-- the lines of an unfinished line and the text after it
after : List ℕ → List ℕ → List (List ℕ)
after [] text = lines_of text
after (c ∷ line) text = with_byte c (after line text)

after_none : (c : ℕ) (line : List ℕ) → after (c ∷ line) [] ≡ (c ∷ line) ∷ []
unfolding lines_of after
after_none c [] = refl
after_none c (d ∷ line) = ap (with_byte c) (after_none d line)

after_feed : (line : List ℕ) (c : ℕ) (cs : List ℕ) → eqb c line_feed ≡ true → after line (c ∷ cs) ≡ line ∷ lines_of cs
unfolding lines_of after
after_feed [] c cs e = rw e
after_feed (d ∷ line) c cs e = ap (with_byte d) (after_feed line c cs e)

after_byte : (line : List ℕ) (c : ℕ) (cs : List ℕ) → eqb c line_feed ≡ false → after line (c ∷ cs) ≡ after (line ++ (c ∷ [])) cs
unfolding lines_of after
after_byte [] c cs e = rw e
after_byte (d ∷ line) c cs e = ap (with_byte d) (after_byte line c cs e)

-- after a bad line no other is heard
unheard : (s : Scene) (lines : List (List ℕ)) → fold with_line (bad_line s) lines ≡ bad_line s
unheard s lines = fold_stays with_line (bad_line s) (λ line. refl) lines

-- the first bytes that are kept stay those
kept_more : (room : ℕ) (line : List ℕ) (c : ℕ) → take room (take room line ++ (c ∷ [])) ≡ take room (line ++ (c ∷ []))
kept_more room line c = go (ltb room (length line)) refl
  where
    go : (b : Bool) → ltb room (length line) ≡ b → take room (take room line ++ (c ∷ [])) ≡ take room (line ++ (c ∷ []))
    go true e =
        let less = ltb-true room (length line) e in
        let long = length-take-le room line (omega (arith, less)) in
        take-append-le room (take room line) (c ∷ []) (omega (arith, long))
        ∙ take_all room (take room line) (omega (arith, long))
        ∙ sym (take-append-le room line (c ∷ []) (omega (arith, less)))
    go false e = ap (λ l. take room (l ++ (c ∷ []))) (take_all room line (ltb-false room (length line) e))

module _ (room : ℕ) (enough : 35 < room) where
  -- what is kept of a line says what the line says
  says_same : (line : List ℕ) → line_of (take room line) ≡ line_of line
  says_same line = go (ltb room (length line)) refl
    where
      go : (b : Bool) → ltb room (length line) ≡ b → line_of (take room line) ≡ line_of line
      go true e =
          let less = ltb-true room (length line) e in
          let long = length-take-le room line (omega (arith, less)) in
          long_says_nothing (take room line) (omega (arith, long, enough)) ∙ sym (long_says_nothing line (omega (arith, less, enough)))
      go false e = ap line_of (take_all room line (ltb-false room (length line) e))

  some_kept : (c : ℕ) (line : List ℕ) → 0 < length (take room (c ∷ line))
  some_kept c line = omega (arith, length-take room (c ∷ line), enough)

  -- what is read of the text from the scene s on, after the bytes of an unfinished line, is what its lines say
  abbrev Reads : Scene → List ℕ → List ℕ → Type 0
  Reads s line text = finished (taken_all room (reading s (take room line)) text) ≡ fold with_line (whole s) (after line text)

  onward_read :
      (r : Read) (cs : List ℕ) → ((s : Scene) → Reads s [] cs) → finished (taken_all room (read_on r) cs) ≡ fold with_line r (lines_of cs)
  unfolding after
  onward_read (whole s) cs later = ap (λ l. finished (taken_all room (reading s l) cs)) (sym (take-nil room)) ∙ later s
  onward_read (bad_line s) cs later = ap finished (stays room s cs) ∙ sym (unheard s (lines_of cs))

  one_byte :
      (s : Scene) (line : List ℕ) (c : ℕ) (cs : List ℕ) → ((t : Scene) → Reads t [] cs) → Reads s (line ++ (c ∷ [])) cs
      → Reads s line (c ∷ cs)
  unfolding taken_all
  one_byte s line c cs next more = go (eqb c line_feed) refl
    where
      go : (b : Bool) → eqb c line_feed ≡ b →
          finished (taken_all room (pick b (read_on (heard s (line_of (take room line))))
          (reading s (take room (take room line ++ (c ∷ []))))) cs)
          ≡ fold with_line (whole s) (after line (c ∷ cs))
      go true e =
          ap (λ l. finished (taken_all room (read_on (heard s l)) cs)) (says_same line)
          ∙ onward_read (heard s (line_of line)) cs next
          ∙ ap (fold with_line (whole s)) (sym (after_feed line c cs e))
      go false e =
          ap (λ l. finished (taken_all room (reading s l) cs)) (kept_more room line c)
          ∙ more
          ∙ ap (fold with_line (whole s)) (sym (after_byte line c cs e))

  from_line : (s : Scene) (line text : List ℕ) → Reads s line text
  unfolding taken_all lines_of after
  from_line s [] [] = ap (λ l. finished (reading s l)) (take-nil room)
  from_line s (c ∷ line) [] =
      last_line s (take room (c ∷ line)) (some_kept c line)
      ∙ ap (heard s) (says_same (c ∷ line))
      ∙ ap (fold with_line (whole s)) (sym (after_none c line))
  from_line s line (c ∷ cs) = one_byte s line c cs (λ t. from_line t [] cs) (from_line s (line ++ (c ∷ [])) cs)

pub reads_lines : ReadsLines
unfolding read_from after
reads_lines room enough s text =
    ap (λ l. finished (taken_all room (reading s l) text)) (sym (take-nil room)) ∙ from_line room enough s [] text
