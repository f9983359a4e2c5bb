-- Checks of which none fails break row 6 nowhere.
use Rattle.std.proofs.Common.{◌≡◌, refl, ap, ◌∙◌, sym, List, [], ◌∷◌, ◌++◌, Bool, true, false, not, ◌&&◌}
use Rattle.std.specs.List.{fold}
use Rattle.layout.specs.declared.Check.{Check}
use Rattle.refusal.specs.Table.{Row, accepted, first, each}
use Rattle.rows.specs.Rows.{row6}
use mathlib.Core.List.{flat_map}

-- whether none has failed, with one more check
abbrev pub noted : Bool → Check → Bool
noted none c = none && not c.fails

failed : (cs : List Check) → fold noted false cs ≡ false
failed [] = refl
failed (c ∷ cs) = failed cs

quiet : (c : Check) (rows : List Row) → c.fails ≡ false → (row6 c ++ rows) ≡ rows
unfolding row6
quiet c rows e = rw e

pub none_noted : (cs : List Check) → fold noted true cs ≡ true → accepted ≡ first (each row6 cs)
unfolding first flat_map
none_noted [] e = refl
none_noted (c ∷ cs) e = go c.fails refl (none_noted cs) e
  where
    go :
        (b : Bool) →
        c.fails ≡ b →
        (fold noted true cs ≡ true → accepted ≡ first (each row6 cs)) → fold noted (not b) cs ≡ true → accepted ≡ first (each row6 (c ∷ cs))
    go true t rest f = absurd (let z : true ≡ false = sym f ∙ failed cs in cc)
    go false t rest f = rest f ∙ ap first (sym (quiet c _ t))
