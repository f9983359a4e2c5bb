-- What is told after a verdict: an accepting one tells, a refusing one is passed on.
use Rattle.std.specs.Prelude.{Result, Ok, Err}
use mathlib.Core.Path.{◌≡◌, sym, ap, ◌∙◌}
use Rattle.refusal.specs.Outcome.{outcome_of, row_of}
use Rattle.refusal.specs.Table.{Outcome}
use Rattle.refusal.specs.Told.{told, denied, after}
use Rattle.refusal.specs.declared.Refusal.{Refusal}

module _ {A : Type 0} (o : Outcome) (v : Result Unit Refusal) (e : outcome_of v ≡ o) where
  pub tells : (a b : A) → v ≡ Ok tt → a ≡ b → told a ≡ after o b
  tells a b t s = ap told s ∙ ap (λ x. after x b) (sym (ap outcome_of t) ∙ e)

  pub denies : (r : Refusal) (b : A) → v ≡ Err r → denied (row_of r) ≡ after o b
  denies r b t = ap (λ x. after x b) (sym (ap outcome_of t) ∙ e)
