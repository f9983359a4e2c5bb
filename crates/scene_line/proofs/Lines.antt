-- A line by its first two bytes, and what follows them by its first space.
use Rattle.std.proofs.Common.{ℕ, ◌+◌, ◌≤◌, ◌&&◌, List, [], ◌∷◌, ◌≡◌, refl, ap, ◌∙◌, arith, eqb, leb, length, get_or, drop, Option, Some, None}
use Rattle.std.proofs.lemmas.List.{drop_all}
use borrow.Author.Tests.{le-leb}
use Rattle.fields.specs.Ascii.{space}
use Rattle.fields.specs.Named.{pick}
use Rattle.scene_line.specs.Line.{number_of, first_space, before_space, said_by, said_after, line_of}

pub line_read :
    (cs : List ℕ) → line_of cs ≡ pick (leb 2 (length cs) && eqb (get_or cs 1 0) space) (said_after (get_or cs 0 0) (drop 2 cs)) None
unfolding line_of
line_read [] = refl
line_read (letter ∷ []) = refl
line_read (letter ∷ c ∷ cs) = let two : 2 ≤ length (letter ∷ c ∷ cs) = omega arith in rw (le-leb _ _ two)

pub no_second : (letter : ℕ) (n : Option ℕ) → said_by letter n None ≡ None
no_second letter (Some a) = refl
no_second letter None = refl

pub no_space : (letter : ℕ) (cs : List ℕ) → length cs ≤ first_space cs → said_after letter cs ≡ None
unfolding said_after number_of
no_space letter cs past =
    ap (λ xs. said_by letter (number_of (before_space cs)) (number_of xs)) (drop_all (first_space cs + 1) cs (omega (arith, past)))
    ∙ no_second letter (number_of (before_space cs))
