-- `same_entries` meets its contract: what begins the entries wanted differs nowhere.
use Rattle.std.proofs.Common.{sym, ◌∙◌}
use Rattle.exact.proofs.Same.{none_differs}
use Rattle.exact.proofs.same_entries.Goals as goal

pub returns-then-starts_with : goal.returns-then-starts_with
returns-then-starts_with c = none_differs _ _ _ (sym c.starts_with.ensures.value ∙ c.if-starts_with.true)
