-- The emitted word of a page or block has no row: it is read as what is wanted.
use Prim.Native.Nat.{ℕ}
use mathlib.Core.Bool.{Bool, false}
use mathlib.Core.List.{[]}
use mathlib.Core.Path.{◌≡◌, ap, ◌∙◌}
use Rattle.arena.specs.Word.{page_to, block_to, leaf_for}
use Rattle.desc.specs.Descriptor.{page_address, block_address}
use Rattle.verify_rows.proofs.Read.{page_read, block_read, no_leaf_row}
use Rattle.verify_rows.specs.Word.{read_page, read_block, wanted_leaf, leaf_row}

pub page_none :
    (t j d m e x : ℕ) →
    d ≡ leaf_for e (page_to x) → leaf_row t j d m (read_page d) (wanted_leaf e (page_address x) false) ≡ []
page_none t j d m e x q = no_leaf_row t j d m _ _ (ap read_page q ∙ page_read e x)

pub block_none :
    (t j d m e x : ℕ) (exempt : Bool) →
    d ≡ leaf_for e (block_to x exempt) → leaf_row t j d m (read_block d) (wanted_leaf e (block_address x) exempt) ≡ []
block_none t j d m e x exempt q = no_leaf_row t j d m _ _ (ap read_block q ∙ block_read e x exempt)
