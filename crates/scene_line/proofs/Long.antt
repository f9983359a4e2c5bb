-- A long line says nothing: one of its numbers has more than 16 digits.
use Rattle.std.proofs.Common.{ℕ, ◌+◌, ◌<◌, Bool, true, false, ◌&&◌, List, [], ◌∷◌, ◌≡◌, refl, ap, ◌∙◌, arith, eqb, leb, ltb, length, length-drop, Some, None}
use Rattle.std.proofs.Math.Seq.{length-take-le}
use Rattle.std.proofs.lemmas.List.Sums.{prefix_len-le-length}
use borrow.Author.Tests.{ltb-true, ltb-false, lt-leb}
use Rattle.fields.specs.Ascii.{space}
use Rattle.fields.specs.Named.{pick}
use Rattle.scene_line.specs.Line.{number_of, with_digits, first_space, before_space, after_space, said_by, said_after, line_of}
use Rattle.scene_line.specs.Long.{LongSaysNothing}
use Rattle.scene_line.proofs.Lines.{no_second}

too_many : (cs : List ℕ) → 16 < length cs → number_of cs ≡ None
unfolding number_of
too_many cs h = rw (lt-leb (length cs) 16 h) (go (leb 1 (length cs)))
  where
    go : (b : Bool) → pick (b && false) (with_digits (Some 0) cs) None ≡ None
    go true = refl
    go false = refl

long_after : (letter : ℕ) (cs : List ℕ) → 33 < length cs → said_after letter cs ≡ None
unfolding said_after
long_after letter cs h = go (ltb 16 (first_space cs)) refl
  where
    go : (b : Bool) → ltb 16 (first_space cs) ≡ b → said_by letter (number_of (before_space cs)) (number_of (after_space cs)) ≡ None
    go true e =
        let far = ltb-true 16 (first_space cs) e in
        let long = length-take-le (first_space cs) cs (prefix_len-le-length _ cs) in
        ap (λ n. said_by letter n (number_of (after_space cs))) (too_many (before_space cs) (omega (arith, far, long)))
    go false e =
        let near = ltb-false 16 (first_space cs) e in
        let long = length-drop (first_space cs + 1) cs in
        ap (said_by letter (number_of (before_space cs))) (too_many (after_space cs) (omega (arith, near, long, h)))
        ∙ no_second letter (number_of (before_space cs))

pub long_says_nothing : LongSaysNothing
unfolding line_of
long_says_nothing [] h = refl
long_says_nothing (letter ∷ []) h = refl
long_says_nothing (letter ∷ c ∷ cs) h = go (eqb c space)
  where
    go : (b : Bool) → pick b (said_after letter cs) None ≡ None
    go true = long_after letter cs (omega (arith, h))
    go false = refl
