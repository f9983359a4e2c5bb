-- `clear` meets its contract: what is filled begins with table 4.
use Rattle.encode.proofs.Cleared.{tables_cleared}
use Rattle.encode.proofs.clear.Goals as goal

pub returns : goal.returns
returns c = let z = c.fill.ensures.after (λ y e. e) in tables_cleared 1536 _ _ c.told-arena z
