-- One grant more than others; and a grant for writing covers reading.
use Prim.Native.Nat.{ℕ}
use mathlib.Core.Bool.{Bool, true, false, ◌&&◌, ◌||◌}
use mathlib.Core.List.{List, [], ◌∷◌, ◌++◌}
use mathlib.Core.Path.{◌≡◌, refl, ap, ◌∙◌}
use lib.Dec.{eqb}
use Rattle.authority.specs.Authority.{has_grant}
use Rattle.grant.specs.Grant.{covers}
use Rattle.grant.specs.declared.Grant.{Grant}

or_false : (a : Bool) → (a || false) ≡ a
or_false true = refl
or_false false = refl

pub or_assoc : (a b c : Bool) → (a || (b || c)) ≡ ((a || b) || c)
or_assoc true b c = refl
or_assoc false b c = refl

pub granted_more :
    (gs : List Grant) (g : Grant) (owner dom m : ℕ) (w : Bool) →
    has_grant (gs ++ g ∷ []) owner dom m w ≡ (has_grant gs owner dom m w || covers owner dom m w g)
unfolding has_grant
granted_more [] g owner dom m w = or_false (covers owner dom m w g)
granted_more (x ∷ gs) g owner dom m w =
    ap (λ b. covers owner dom m w x || b) (granted_more gs g owner dom m w)
    ∙ or_assoc (covers owner dom m w x) (has_grant gs owner dom m w) (covers owner dom m w g)

-- a grant that covers writing covers reading
weaker : (a b c w : Bool) → (a && b && c && (false || w)) ≡ true → (a && b && c && (true || w)) ≡ true
weaker true true true true e = refl
weaker true true true false e = refl
weaker true true false w e = e
weaker true false c w e = e
weaker false b c w e = e

either : (a b a' b' : Bool) → (a ≡ true → a' ≡ true) → (b ≡ true → b' ≡ true) → (a || b) ≡ true → (a' || b') ≡ true
either true b a' b' f g e = rw (f refl)
either false b true b' f g e = refl
either false b false b' f g e = g e

pub reading :
    (grants : List Grant) (owner dom m : ℕ) →
    has_grant grants owner dom m true ≡ true → has_grant grants owner dom m false ≡ true
unfolding has_grant covers
reading [] owner dom m e = e
reading (g ∷ gs) owner dom m e =
    either _ _ _ _
    (weaker (eqb g.frame m) (eqb g.grantee dom) (eqb g.grantor owner) g.writable)
    (reading gs owner dom m)
    e
