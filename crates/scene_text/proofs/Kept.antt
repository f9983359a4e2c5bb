-- What ends the reading: the text's end, or a bad line.
use Rattle.std.proofs.Common.{ℕ, ◌<◌, sym, get_or, take, List, [], ◌∷◌, ◌≡◌, refl, ap, ◌∙◌, arith, length}
use Rattle.std.proofs.lemmas.List.Folds.{fold_stays, fold_stuck}
use Rattle.scene.specs.Scene.{Scene}
use Rattle.scene_line.specs.Line.{line_of}
use Rattle.scene_text.specs.Reading.{Reading, reading, stopped, taken, taken_all, finished}
use Rattle.scene_text.specs.Text.{heard}

-- what follows the last line feed is a line, if there is something
pub last_line : (s : Scene) (cs : List ℕ) → 0 < length cs → finished (reading s cs) ≡ heard s (line_of cs)
last_line s [] h = absurd (omega (arith, h))
last_line s (c ∷ cs) h = refl

-- after a bad line nothing is read
pub stays : (room : ℕ) (s : Scene) (cs : List ℕ) → taken_all room (stopped s) cs ≡ stopped s
unfolding taken_all
stays room s cs = fold_stays (taken room) (stopped s) (λ c. refl) cs

-- a line that ends at a byte of the text, and is bad
pub stops :
    (room : ℕ) (r so_far : Reading) (cs : List ℕ) (i : ℕ) (s : Scene) →
    i < length cs → taken_all room r (take i cs) ≡ so_far → stopped s ≡ taken room so_far (get_or cs i 0) → stopped s ≡ taken_all room r cs
unfolding taken_all
stops room r so_far cs i s inside read bad =
    fold_stuck (taken room) (stopped s) (λ c. refl) r cs i 0 inside (ap (λ q. taken room q (get_or cs i 0)) read ∙ sym bad)
