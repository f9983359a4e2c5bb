-- Where walks of S stop, each with its level: at a leaf word, or where no word leads on.
use Rattle.std.specs.Prelude.{ℕ, ◌^◌, ◌≡◌}
use Rattle.arena.specs.Encoded.{target}
use Rattle.demand_2.specs.Demand2.{addresses_of}
use Rattle.demand_2.specs.Tabled.{S}
use Rattle.descent.specs.Descent.{stop_of}
use Rattle.descent.specs.declared.Stop.{Stop}
use Rattle.descent.specs.declared.Stop.TheVariants.{Leaf, Stopped}
use Rattle.rows.specs.Examples.{base_s, sup_s}

-- over the words that encoding S leaves from zeros
abbrev pub stop_s : ℕ → Stop
stop_s x = stop_of (addresses_of S) (λ left. target S base_s sup_s) x

pub record StopsOfS : Type 0 where
  pub page : stop_s 0x8000_1234 ≡ Leaf 3 0x0040_0000_5000_17FF
  pub super : stop_s 0xC040_0010 ≡ Leaf 2 0x0000_0000_6040_077D
  pub no_page : stop_s 0x8000_0000 ≡ Stopped 3
  pub no_super : stop_s 0xC080_0000 ≡ Stopped 2
  pub no_window : stop_s 0x1_4000_0000 ≡ Stopped 1
  pub past_the_limit : stop_s (2 ^ 39) ≡ Stopped 0
