-- Where the pieces of a window lie: in level 2 slots of their own.
use Prim.Native.Nat.{ℕ, ◌+◌, ◌-◌, ◌*◌, ◌/◌, ◌%◌, ◌≤◌, ◌<◌}
use mathlib.Core.Path.{◌≡◌, sym, ap₂, ◌∙◌}
use native.Mathlib.Omega.{arith}
use Rattle.layout.specs.Size.{block, l1_span, input_limit}
use Rattle.layout.specs.Window.{l1_slot, l2_slot}

-- by what lies below 1 GiB
low_slot : (x : ℕ) → l2_slot x ≡ x % l1_span / block
low_slot x = omega arith

low_away : (ipa x : ℕ) → x / l1_span ≡ ipa / l1_span → ipa ≤ x → x - ipa ≡ x % l1_span - ipa % l1_span
low_away ipa x g h = omega arith

low_order : (ipa x : ℕ) → x / l1_span ≡ ipa / l1_span → ipa ≤ x → ipa % l1_span ≤ x % l1_span
low_order ipa x g h = omega arith

low_aligned : (ipa : ℕ) → ipa % block ≡ 0 → ipa % l1_span % block ≡ 0
low_aligned ipa h = omega arith

blocks_apart : (i x : ℕ) → i % block ≡ 0 → i ≤ x → x / block ≡ i / block + (x - i) / block
blocks_apart i x a h = omega arith

-- in the same slot, blocks of a window that is aligned to them
module _
    (ipa span x : ℕ) (low : ipa < input_limit) (room : ipa % l1_span + span ≤ l1_span) (aligned : ipa % block ≡ 0) (whole : span % block ≡ 0)
    (below : x < input_limit)
    (same : l1_slot x ≡ l1_slot ipa)
  where
    gib : x / l1_span ≡ ipa / l1_span
    gib = omega arith

    pub block_from : ipa ≤ x → x - ipa < span → l2_slot x ≡ l2_slot ipa + (x - ipa) / block
    block_from a b =
        low_slot x
        ∙ blocks_apart (ipa % l1_span) (x % l1_span) (low_aligned ipa aligned) (low_order ipa x gib a)
        ∙ sym (ap₂ (λ (m n : ℕ). m + n / block) (low_slot ipa) (low_away ipa x gib a))

    pub block_back : l2_slot ipa ≤ l2_slot x → l2_slot x < l2_slot ipa + span / block → (ipa ≤ x) × (x - ipa < span)
    block_back a b = let g = gib in (omega arith, omega arith)

    pub block_offset : ipa ≤ x → (x - ipa) / block * block + x % block ≡ x - ipa
    block_offset a = omega arith
