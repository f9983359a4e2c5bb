-- What has been read so far is some text, with which the reader's bytes begin. Each read that is not the last brings a byte or more.
use Rattle.std.proofs.Common.{ℕ, ◌-◌, ◌^◌, ◌≤◌, arith, List, [], ◌++◌, ◌≡◌, sym, ap, refl, ◌∙◌, length, Option, None, Some}
use Rattle.std.specs.Prelude.{Result, Ok, Err, OnErr}
use Rattle.std.proofs.lemmas.List.{append-nil, length-append}
use Rattle.std.proofs.KnownBytes.{Consumes-kept}
use Rattle.std.specs.Io.KnownBytes.{Consumes, IsAtEnd, Keeps}
use Rattle.scene.specs.Scene.{Scene}
use Rattle.scene_read.specs.Input.{IsTextOf, ReadsText, LeavesText}
use Rattle.scene_text.proofs.Kept.{stays}
use Rattle.scene_text.proofs.Lines.{reads_lines, reads_pieces}
use Rattle.scene_text.specs.Reading.{Reading, reading, stopped, taken_all, finished}
use Rattle.scene_text.specs.declared.BadLine.{BadLine}

-- one piece more of a text, of whose lines 36 bytes are kept
pub more :
    (s : Scene) (text piece : List ℕ) (r next : Reading) →
    taken_all 36 (reading s []) text ≡ r → next ≡ taken_all 36 r piece → taken_all 36 (reading s []) (text ++ piece) ≡ next
more s text piece r next so_far left =
    reads_pieces 36 (reading s []) text piece ∙ ap (λ q. taken_all 36 q piece) so_far ∙ sym left

-- the last read brings nothing
pub all_read :
    (known left new : Option (List ℕ)) (text : List ℕ) →
    Consumes known left text → Consumes left new [] → IsAtEnd new → IsTextOf known text
all_read None left new text r e end = tt
all_read (Some all) None new text r e end = absurd r
all_read (Some all) (Some left) None text r e end = absurd e
all_read (Some all) (Some left) (Some new) text r e end =
    λ few. sym (r ∙ ap (λ xs. text ++ xs) (e ∙ end) ∙ append-nil text)

-- no input is read so often
pub never_so_often :
    (known left : Option (List ℕ)) (text : List ℕ) → Consumes known left text → 2 ^ 64 - 1 ≤ length text → IsTextOf known text
never_so_often None left text r often = tt
never_so_often (Some all) None text r often = absurd r
never_so_often (Some all) (Some left) text r often =
    λ few. absurd (omega (arith, few, often, ap length r, length-append text left))

-- a bad line ends the reading, whatever follows
pub bad_read :
    (known left : Option (List ℕ)) (s new : Scene) (text : List ℕ) (bad : BadLine) →
    Consumes known left text → taken_all 36 (reading s []) text ≡ stopped new → ReadsText known s (Err bad) new
bad_read None left s new text bad r e = (text, tt, ap finished (sym e) ∙ reads_lines 36 (omega arith) s text)
bad_read (Some all) None s new text bad r e = absurd r
bad_read (Some all) (Some left) s new text bad r e =
    let whole : taken_all 36 (reading s []) all ≡ stopped new =
    ap (taken_all 36 (reading s [])) r ∙ reads_pieces 36 (reading s []) text left ∙ ap (λ q. taken_all 36 q left) e ∙ stays 36 new left in
    (all, λ few. refl, ap finished (sym whole) ∙ reads_lines 36 (omega arith) s all)

-- a read that fails
pub left_read :
    (known left kept : Option (List ℕ)) (s new : Scene) (text line : List ℕ) →
    Consumes known left text → Keeps left kept → taken_all 36 (reading s []) text ≡ reading new line → LeavesText known kept s new
left_read known left kept s new text line r k e = (text, Consumes-kept known left kept text r k, (line, e))

pub on_err : {T E P : Type 0} → (r : Result T E) → P → OnErr r P
on_err (Ok x) p = tt
on_err (Err e) p = p
