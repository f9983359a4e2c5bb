-- Reading gives back what was joined: the base and the VMID share no bit.
use Prim.Native.Nat.{ℕ, ◌+◌, ◌*◌, ◌%◌, ◌^◌, ◌<◌}
use mathlib.Core.Path.{◌≡◌, ◌∙◌, ap}
use native.Mathlib.Nat.{mod-eq_of_lt}
use native.Mathlib.Omega.{arith}
use lib.Bits.{or_shifted_r}
use Rattle.fields.specs.Bits.{bits}
use Rattle.sizes.proofs.Bounds.{vmids_range}
use Rattle.sizes.specs.Codes.{vmids}
use Rattle.vttbr.specs.RoundTrip.{VttbrRoundTrip}
use Rattle.vttbr.specs.Vttbr.{vttbr_of, baddr, vmid_of}

-- a base below 2 ^ 48 and the shifted VMID have no bit in common
sum_of : (base vmid : ℕ) → base < 2 ^ 48 → vmid < 2 ^ 16 → vttbr_of base vmid ≡ vmid * 2 ^ 48 + base
sum_of base vmid h k =
    let e : vmid * 2 ^ 48 % 2 ^ 64 ≡ vmid * 2 ^ 48 = omega arith in
    rw e (or_shifted_r vmid 48 base h)

pub vttbr_round_trip : VttbrRoundTrip
vttbr_round_trip base vmid b h k =
    let w : vmid < 2 ^ 16 = omega (arith, vmids_range b) in
    let s = sum_of base vmid h w in
    let t : baddr (vmid * 2 ^ 48 + base) ≡ base = omega arith in
    let u : bits 63 48 (vmid * 2 ^ 48 + base) ≡ vmid = omega arith in
    (ap baddr s ∙ t, ap (λ (v : ℕ). vmid_of v b) s ∙ ap (λ (n : ℕ). n % vmids b) u ∙ mod-eq_of_lt k)
