-- That no table's size outgrows 64 bits.
use Prim.Native.Nat.{ℕ, ◌*◌, ◌%◌, ◌^◌, ◌<◌}
use mathlib.Core.Path.{◌≡◌}
use native.Mathlib.Omega.{arith}
use lib.Dec.{lit<}
use lib.Pow.{shl_exact}

-- a table's size for an index of k bits is a 64-bit number
pub size_fits : (k : ℕ) → k < 61 → (8 * 2 ^ k) % 2 ^ 64 ≡ 8 * 2 ^ k
size_fits k h = shl_exact 4 k 64 (lit< tt) (omega arith)
