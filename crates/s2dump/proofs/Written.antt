-- Pieces that are written one after the other.
use Rattle.std.proofs.Common.{ℕ, zero, suc, ◌+◌, ◌≡◌, arith, List, ◌++◌, sym, ap, ◌∙◌}
use Rattle.std.proofs.lemmas.List.{append_assoc, append-nil}
use Rattle.dump.specs.Dump.{in_order}

-- one piece more
next_piece : (text : ℕ → List ℕ) (k n : ℕ) → in_order text k (suc n) ≡ in_order text k n ++ text (k + n)
unfolding in_order
next_piece text k zero = let none : k ≡ k + 0 = omega arith in append-nil (text k) ∙ ap text none
next_piece text k (suc n) =
    let next : suc k + n ≡ k + suc n = omega arith in
    ap (λ zs. text k ++ zs) (next_piece text (suc k) n ∙ ap (λ i. in_order text (suc k) n ++ text i) next)
    ∙ sym (append_assoc (text k) (in_order text (suc k) n) (text (k + suc n)))

pub one_more : (text : ℕ → List ℕ) (n : ℕ) → in_order text 0 (n + 1) ≡ in_order text 0 n ++ text n
one_more text n =
    let one : n + 1 ≡ suc n = omega arith in
    let none : 0 + n ≡ n = omega arith in
    ap (in_order text 0) one ∙ next_piece text 0 n ∙ ap (λ i. in_order text 0 n ++ text i) none
