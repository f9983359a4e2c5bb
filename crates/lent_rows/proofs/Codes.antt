-- Bytes that are all small enough break row 3 nowhere.
use Rattle.std.proofs.Common.{ℕ, ◌≤◌, ◌≡◌, List, [], get_or, sym, refl, le_trans}
use borrow.Author.Tests.{le-ltb}
use Rattle.map_entries.proofs.Larger.{at_most}
use Rattle.map_entries.specs.Larger.{largest}
use Rattle.refusal.proofs.None.{accept, from_nowhere}
use Rattle.refusal.specs.Table.{accepted, first, each_from}
use Rattle.rows.specs.Rows.{row3}

no_row3 : (code p byte : ℕ) → byte ≤ 3 → row3 code p byte ≡ []
unfolding row3
no_row3 code p byte h = rw (le-ltb _ _ h)

pub all_codes : (code : ℕ) (map : List ℕ) → largest map ≤ 3 → accepted ≡ first (each_from (row3 code) 0 map)
all_codes code map h =
    sym (accept _ (from_nowhere (row3 code) map 0 (λ p _. no_row3 code p (get_or map p 0) (le_trans (at_most map _ refl p) h))))
