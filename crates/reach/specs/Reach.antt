-- What an address reaches, by document 01 ("Update"): nothing, or output address, Ro or Rw, and executable or never.
use Rattle.reach.specs.declared.Reach.{Reach}
use Rattle.std.specs.Prelude.{ℕ, List, [], ◌∷◌}
use Rattle.fields.specs.Numbers.{bit}
use Rattle.perm.specs.Perm.{perm_code}

-- 1 and the output address, the access (1 Ro, 2 Rw) and never (0 or 1)
abbrev pub reach_values : Reach → List ℕ
reach_values r = 1 ∷ r.pa ∷ perm_code r.perm ∷ bit r.xn ∷ []
