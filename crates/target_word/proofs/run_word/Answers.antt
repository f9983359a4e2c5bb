-- `run_word` meets its contract: a word of the run, or none before it or past it.
use Rattle.std.proofs.Common.{◌∙◌, ap, arith}
use Rattle.std.proofs.lemmas.Bool.Decides.{nat_tests}
use Rattle.target_word.proofs.run_word.Goals as goal

pub returns-in-Some : goal.returns-in-Some
returns-in-Some g c =
    λ t f is.
    let here = is _ _ c.word.ensures ∙ ap f c.in-Some.ensures.1 in
    grind (arith, nat_tests, here)

pub returns : goal.returns
returns g c = λ t f is. grind (arith, nat_tests)
