-- Document 01's tabled statement: eight walks of S and four leaf edges.
use Rattle.std.specs.Prelude.{Option, Some, None}
use Rattle.reach.specs.declared.Reach.{Reach}
use Rattle.std.specs.Prelude.{ℕ, ◌<◌, Bool, true, false, ◌≡◌}
use Rattle.arena.specs.Encoded.{target}
use Rattle.demand_2.specs.Demand2.{addresses_of}
use Rattle.descent.specs.Descent.{Words}
use Rattle.layout.specs.Layout.{layout_of}
use Rattle.layout.specs.Size.{arena_length}
use Rattle.layout.specs.declared.Layout.{Layout}
use Rattle.leafmap_theorems.specs.Examples.{FourEdges}
use Rattle.perm.specs.declared.Perm.TheVariants.{Ro, Rw}
use Rattle.perm.specs.declared.Perm.{Perm}
use Rattle.rows.specs.Examples.{scene_s, base_s, sup_s}
use Rattle.walk.specs.Walk.{walk_of}

abbrev pub S : Layout
S = layout_of scene_s

abbrev pub reach : ℕ → Perm → Bool → Option Reach
reach pa access never = Some (record { pa = pa; perm = access; xn = never })

-- over the words that encoding S leaves from zeros
pub record WalksOfS (words : Words) : Type 0 where
  pub page : walk_of (addresses_of S) (λ left. words) 0x8000_1234 ≡ reach 0x5000_1234 Rw true
  pub page_before : walk_of (addresses_of S) (λ left. words) 0x8000_0000 ≡ None
  pub page_after : walk_of (addresses_of S) (λ left. words) 0x8000_2000 ≡ None
  pub super : walk_of (addresses_of S) (λ left. words) 0xC040_0010 ≡ reach 0x6040_0010 Ro false
  pub no_such_super : walk_of (addresses_of S) (λ left. words) 0xC080_0000 ≡ None
  pub device : walk_of (addresses_of S) (λ left. words) 0x900_0018 ≡ reach 0x900_0018 Rw true
  pub past_device : walk_of (addresses_of S) (λ left. words) 0x920_0000 ≡ None
  -- 2^39 does not wrap
  pub wrapped : walk_of (addresses_of S) (λ left. words) 0x80_8000_1234 ≡ None

pub record Tabled : Type 0 where
  pub walks : (words : Words) → ((i : ℕ) → i < arena_length → words i ≡ target S base_s sup_s i) → WalksOfS words
  pub edges : FourEdges
