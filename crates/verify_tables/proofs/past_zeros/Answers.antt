-- `past_zeros` meets its contract: the words that are passed over are 0.
use Rattle.std.proofs.Common.{arith, ◌≡◌, ◌<◌, ◌≤◌, ℕ, ◌+◌, ◌*◌, ◌-◌}
use Rattle.std.proofs.lemmas.Grind.{common_steps}
use Rattle.layout.specs.Size.{entries}
use Rattle.verify_tables.proofs.Zeros.{zeros}
use Rattle.verify_rows.specs.Verifying.{word}
use Rattle.verify_tables.proofs.past_zeros.Goals as goal

pub returns : goal.returns
returns c =
    let a = c.args in
    let r = a.j + c.zero_fours.result * 4 in
    let long = c.in-Some.ensures.lookup.0 in
    let below : r ≤ entries = omega (arith, long.3) in
    let zero : (k : ℕ) → k < r → a.j ≤ k → word a.arena.now a.table k ≡ 0 =
    λ k lt le. let z = c.zero_fours.ensures.zeros (k - a.j) (omega (arith, lt, le)) in grind (arith, common_steps, z, long.2) in
    (omega arith, below, λ l. zeros a.arena.now l a.table a.j r (omega arith) below zero)
