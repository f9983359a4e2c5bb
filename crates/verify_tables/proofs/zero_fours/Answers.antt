-- `zero_fours` meets its contract: each chunk that is counted has four words that are 0.
use Rattle.std.proofs.Common.{rules, arith, ◌≡◌, ℕ, ◌+◌, ◌*◌, ◌/◌, ◌%◌, ◌<◌, ◌≤◌, ◌∙◌, ap, sym, subst, List, length, get_or, Option, Some, None}
use Rattle.std.specs.Borrow.{Bor}
use Rattle.std.specs.Option.{IfSome, option_map}
use Rattle.std.specs.List.{IsSubsliceAt}
use Rattle.verify_tables.proofs.zero_fours.Goals as goal

-- a chunk of zeros at its place among the words
at_chunk :
    (Z : Bor (List ℕ) → Type 0) (o found : Option (Bor (List ℕ))) (y : Bor (List ℕ)) (n : ℕ) (ws : List ℕ) (i r : ℕ) →
    found ≡ o → option_map (λ x. x) o ≡ Some y → IfSome o Z →
    IfSome found (λ x. (length x.now ≡ n) × (i * n + n ≤ length ws) × IsSubsliceAt n ws (i * n) x.now) →
    ((x : Bor (List ℕ)) → Z x → (k : ℕ) → k < length x.now → get_or x.now k 0 ≡ 0) → r < n → get_or ws (i * n + r) 0 ≡ 0
at_chunk Z (Some x) (Some w) y n ws i r e s z part zero h =
    let same : w ≡ x = cc in
    sym (part.2.2 r 0 h) ∙ zero w (subst Z (sym same) z) r (subst (λ n. r < n) (sym part.0) h)
at_chunk Z (Some x) None y n ws i r e s z part zero h = cc
at_chunk Z None found y n ws i r e s z part zero h = cc

pub returns-clause-zeros : goal.returns-clause-zeros
returns-clause-zeros c k h =
    let i = k / 4 in
    let p = c.count.ensures.runs in
    let q = c.take_while.ensures.runs p.0 p.0.seen p.1 in
    let size : q.0.from.size ≡ 4 = ap (λ s. s.size) q.1 ∙ c.chunks_exact.ensures.size in
    let rest : q.0.from.rest.now ≡ c.args.words.now = ap (λ s. s.rest.now) q.1 ∙ c.chunks_exact.ensures.rest in
    let inside : i < p.0.len = omega (arith, h, p.3) in
    let zero = (q.2.2 (λ x f' r l. search rules)).0 i in
    let part = (c.chunks_exact.ensures.runs q.0 q.0.seen (omega (arith, size))).2 i in
    let here =
    at_chunk _ (p.0.at i) (q.0.at i) _ q.0.from.size q.0.from.rest.now i (k % 4) (q.2.1 i inside) (p.0.reads i c.args.words inside) zero part
    (λ x z l b. search rules) (omega (arith, size)) in
    let at : i * 4 + k % 4 ≡ k = omega arith in
    rw (rest, size, at) at here
