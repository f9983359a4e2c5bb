-- Texts put one after the other into a buffer stand in its front.
use Prim.Native.Nat.{ℕ, ◌+◌, ◌≤◌, ◌<◌}
use mathlib.Core.Bool.{Bool, true, false}
use mathlib.Core.List.{List, ◌++◌}
use mathlib.Core.Path.{◌≡◌, refl, ap, ◌∙◌}
use native.Mathlib.Nat.{le_refl}
use native.Mathlib.Omega.{arith}
use lib.Dec.{leb}
use lib.ListN.{length, drop, length-append}
use lib.Seq.{paste, length-paste, take-length, take-append_seam, drop-append-add, drop-drop}
use borrow.Author.Tests.{leb-true, leb-false, le-leb, lt-leb}
use Rattle.text.specs.Front.{in_front, put_at}

module _ (text old : List ℕ) (at : ℕ) where
  pub room : at + length text ≤ length old → put_at text old at ≡ paste old at text (length text)
  unfolding put_at
  room h = rw (le-leb _ _ h)

  pub no_room : length old < at + length text → put_at text old at ≡ old
  unfolding put_at
  no_room h = rw (lt-leb _ _ h)

  pub length_put : length (put_at text old at) ≡ length old
  length_put = go (leb (at + length text) (length old)) refl
    where
      go : (b : Bool) → leb (at + length text) (length old) ≡ b → length (put_at text old at) ≡ length old
      go true e =
          let h = leb-true _ _ e in
          ap length (room h) ∙ length-paste old at text (length text) h (le_refl (length text))
      go false e = ap length (no_room (leb-false _ _ e))

pub put_first : (old text : List ℕ) → paste old 0 text (length text) ≡ in_front text old
put_first old text = let none : 0 + length text ≡ length text = omega arith in rw (take-length text, none)

pub put_next : (old text more : List ℕ) → paste (in_front text old) (length text) more (length more) ≡ in_front (text ++ more) old
put_next old text more =
    let rest = drop-append-add text (drop (length text) old) (length more) ∙ drop-drop (length more) (length text) old in
    rw (take-append_seam text (drop (length text) old), take-length more, rest, length-append text more)
