-- The bytes of a page, line by line.
use mathlib.Core.Bool.{Bool, true, false}
use mathlib.Core.List.{List, [], ◌∷◌, ◌++◌, append_assoc, flat_map}
use mathlib.Core.Path.{◌≡◌, refl}
use lib.ListN.{length}
use Rattle.perm.specs.Perm.{perm_writes}
use Rattle.runs.specs.Page.{line_length, run_line, last_line, page_of}
use Rattle.runs.specs.declared.Run.{Run}

pub line_length_lem : (r : Run) → length (run_line r) ≡ line_length
unfolding run_line
line_length_lem r = go (perm_writes r.perm) r.xn refl refl
  where
    go : (w x : Bool) → perm_writes r.perm ≡ w → r.xn ≡ x → length (run_line r) ≡ line_length
    go true true p q = rw (p, q) refl
    go true false p q = rw (p, q) refl
    go false true p q = rw (p, q) refl
    go false false p q = rw (p, q) refl

pub last_length : length last_line ≡ line_length
unfolding last_line
last_length = refl

pub page_none : page_of [] ≡ last_line
unfolding page_of flat_map
page_none = refl

pub page_next : (r : Run) (rs : List Run) → page_of (r ∷ rs) ≡ run_line r ++ page_of rs
unfolding page_of flat_map
page_next r rs = append_assoc (run_line r) (flat_map run_line rs) last_line
