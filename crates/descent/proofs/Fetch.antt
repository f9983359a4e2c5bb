-- A fetch by the position of the first table that has the address named.
use Rattle.std.proofs.Common.{ℕ, ◌+◌, ◌*◌, ◌≡◌, Bool, true, false, List, [], ◌∷◌, Option, Some, None, cond, eqb, refl, ap, sym, ◌∙◌, arith}
use Rattle.std.proofs.lemmas.Iterator.Adapters.{position_from-zero}
use Rattle.std.specs.List.{position, position_from}
use Rattle.descent.specs.Descent.{Words, fetch_from, fetch}
use Rattle.fields.specs.Named.{pick}
use Rattle.layout.specs.Size.{entries}

module _ (outside : ℕ) (words : Words) (named j : ℕ) where
  -- the word at the position, and what stands outside where there is none
  abbrev pub placed : Option ℕ → ℕ
  placed (Some t) = words (t * entries + j)
  placed None = outside

  here_or_later :
      (b : Bool) (t word : ℕ) (later : Option ℕ) → word ≡ placed later →
      pick b (words (t * entries + j)) word ≡ placed (cond b (Some t) later)
  here_or_later true t word later e = refl
  here_or_later false t word later e = e

  -- from a table on, the words before it passed over
  fetch_from_position :
      (tables : List ℕ) (t : ℕ) → fetch_from (t * entries) outside tables words named j ≡ placed (position_from (λ pa. eqb pa named) t tables)
  unfolding fetch_from
  fetch_from_position [] t = refl
  fetch_from_position (pa ∷ tables) t =
      let next : t * entries + entries ≡ (t + 1) * entries = omega arith in
      here_or_later (eqb pa named) t _ (position_from (λ a. eqb a named) (t + 1) tables)
      (ap (λ (from : ℕ). fetch_from from outside tables words named j) next ∙ fetch_from_position tables (t + 1))

  pub fetch_by_position :
      (tables : List ℕ) → fetch outside tables words named j ≡ placed (position (λ pa. eqb pa named) tables)
  fetch_by_position tables = fetch_from_position tables 0 ∙ ap placed (sym (position_from-zero (λ pa. eqb pa named) tables))
