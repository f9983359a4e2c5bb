-- The tabled statement: what S grants, by computing, and demand 2.
use Prim.Native.Nat.{ℕ, ◌<◌}
use mathlib.Core.Path.{◌≡◌, ◌∙◌, refl}
use lib.ListN.{replicate}
use Rattle.accepted_facts.proofs.Guarded.{arena_guarded_facts}
use Rattle.arena.specs.Encoded.{target}
use Rattle.demand_2.specs.Demand2.{addresses_of}
use Rattle.demand_2.specs.Tabled.{S, WalksOfS, Tabled}
use Rattle.demand_2.proofs.Demand2.{reaches_whole}
use Rattle.descent.specs.Descent.{Words}
use Rattle.layout.specs.Layout.{layout_of}
use Rattle.layout.specs.Size.{board_limit, arena_length}
use Rattle.leafmap_theorems.proofs.Examples as Leaves
use Rattle.rows.proofs.Examples as Rows
use Rattle.rows.specs.Examples.{base_s, sup_s}
use Rattle.walk.specs.Walk.{walk_of}
use Rattle.window_reach.specs.Granted.{granted_by, granted}

module _ (words : Words) (all : (i : ℕ) → i < arena_length → words i ≡ target S base_s sup_s i) where
  walked : (x : ℕ) → walk_of (addresses_of S) (λ left. words) x ≡ granted S base_s sup_s x
  walked x =
      (reaches_whole S base_s sup_s words
      (arena_guarded_facts board_limit (replicate arena_length 0) base_s sup_s S (Rows.row_examples).S).1 all x).walks

  walks_of_s : WalksOfS words
  unfolding layout_of granted_by
  walks_of_s =
      record {
        page = walked 0x8000_1234 ∙ refl;
        page_before = walked 0x8000_0000 ∙ refl;
        page_after = walked 0x8000_2000 ∙ refl;
        super = walked 0xC040_0010 ∙ refl;
        no_such_super = walked 0xC080_0000 ∙ refl;
        device = walked 0x900_0018 ∙ refl;
        past_device = walked 0x920_0000 ∙ refl;
        wrapped = walked 0x80_8000_1234 ∙ refl;
      }

pub tabled : Tabled
tabled = record { walks = walks_of_s; edges = (Leaves.leaf_examples).four_edges }
