-- Grants, by document 01 ("Leaf maps").
use Rattle.std.specs.Prelude.{ℕ, Bool, not, ◌&&◌, ◌||◌, List, eqb, get_or}
use Rattle.fields.specs.Numbers.{nonzero}
use Rattle.grant.specs.declared.Grant.{Grant}

-- a grant is grantor, grantee, frame, writable
abbrev pub grant_of : List ℕ → Grant
grant_of x =
    record { grantor = get_or x 0 0; grantee = get_or x 1 0; frame = get_or x 2 0; writable = nonzero (get_or x 3 0) }

-- it lets the domain reach the owner's frame; a grant for writing covers reading
unfoldable pub covers : ℕ → ℕ → ℕ → Bool → Grant → Bool
covers owner dom m writes g =
    eqb g.frame m && eqb g.grantee dom && eqb g.grantor owner && (not writes || g.writable)
