-- A leaf word is read alike exactly where `alike` says so: by its five bits.
use Rattle.std.specs.Prelude.{Option, Some, None}
use Rattle.reach.specs.declared.Reach.{Reach}
use Prim.Native.Nat.{ℕ, ◌+◌, ◌*◌, ◌<◌}
use mathlib.Core.Bool.{Bool, true, false, not, ◌&&◌, ◌||◌}
use mathlib.Core.Path.{◌≡◌, refl, sym, ap, ◌∙◌}
use native.Mathlib.Omega.{arith}
use lib.Dec.{eqb}
use borrow.Author.Tests.{eqb-true, eqb-false}
use Rattle.decode.specs.Decoded.{access_named, leaf_of, leaf_at}
use Rattle.desc.specs.Descriptor.{s2ap, af, xn, execute_never}
use Rattle.fields.specs.Bits.{bits}
use Rattle.fields.specs.Named.{pick}
use Rattle.fields.specs.Numbers.{bit}
use Rattle.perm.specs.declared.Perm.TheVariants.{Ro, Rw}
use Rattle.perm.specs.declared.Perm.{Perm}
use Rattle.walk.specs.Walk.{leaf_reach}
use Rattle.manual.specs.Agreement.{alike, Agrees, LeavesAgree}
use Rattle.manual.specs.Translation.{Level, el0, el1, Access, reads, writes, executes, Translated, byte, fault, leaf, allowed}

-- by the bits 6, 7, 10, 54 and 53

abbrev no_xnx_bits : Bool → ℕ → Bool
no_xnx_bits xnx k = not xnx || eqb k 0

abbrev alike_bits : Bool → ℕ → ℕ → ℕ → ℕ → ℕ → Bool
alike_bits xnx r w f n k = pick (eqb r 1) (eqb f 1 && no_xnx_bits xnx k) (not (eqb f 1) || eqb w 0 && eqb n 1 && no_xnx_bits xnx k)

abbrev executable_bits : Bool → Level → ℕ → ℕ → Bool
executable_bits false el n k = eqb n 0
executable_bits true el0 n k = eqb n 0
executable_bits true el1 n k = eqb n k

abbrev permits_bits : Bool → Access → ℕ → ℕ → ℕ → ℕ → Bool
permits_bits xnx reads r w n k = eqb r 1
permits_bits xnx writes r w n k = eqb w 1
permits_bits xnx (executes el) r w n k = executable_bits xnx el n k

abbrev leaf_bits : Bool → Access → ℕ → ℕ → ℕ → ℕ → ℕ → ℕ → Translated
leaf_bits xnx a out r w f n k = pick (eqb f 1 && permits_bits xnx a r w n k) (byte out) fault

abbrev reach_bits : ℕ → Perm → ℕ → Option Reach
reach_bits out p n = Some (record { pa = out; perm = p; xn = eqb n 1 })

abbrev read_bits : ℕ → ℕ → ℕ → ℕ → Option Reach
read_bits out r w n = pick (eqb (r + 2 * w) 3) (reach_bits out Rw n) (pick (eqb (r + 2 * w) 1) (reach_bits out Ro n) None)

abbrev AgreesBits : Bool → ℕ → ℕ → ℕ → ℕ → ℕ → Type 0
AgreesBits xnx r w f n k = (a : Access) (out : ℕ) → leaf_bits xnx a out r w f n k ≡ allowed a (read_bits out r w n)

impossible : {A : Type 0} → true ≡ false → A
impossible e = absurd (let z : ◌≡◌ {A = ℕ} 0 1 = cc in omega arith)

no_fault : {A : Type 0} {out : ℕ} → byte out ≡ fault → A
no_fault e = absurd (let z : ◌≡◌ {A = ℕ} 0 1 = cc in omega arith)

enough_bits :
    (xnx r w f n k : Bool) → alike_bits xnx (bit r) (bit w) (bit f) (bit n) (bit k) ≡ true
    → AgreesBits xnx (bit r) (bit w) (bit f) (bit n) (bit k)
enough_bits xnx true w false n k h a out = impossible (sym h)
enough_bits xnx true true true n k h reads out = refl
enough_bits xnx true false true n k h reads out = refl
enough_bits xnx true true true n k h writes out = refl
enough_bits xnx true false true n k h writes out = refl
enough_bits false true true true true k h (executes el) out = refl
enough_bits false true true true false k h (executes el) out = refl
enough_bits false true false true true k h (executes el) out = refl
enough_bits false true false true false k h (executes el) out = refl
enough_bits true true w true n true h (executes el) out = impossible (sym h)
enough_bits true true true true true false h (executes el0) out = refl
enough_bits true true true true false false h (executes el0) out = refl
enough_bits true true false true true false h (executes el0) out = refl
enough_bits true true false true false false h (executes el0) out = refl
enough_bits true true true true true false h (executes el1) out = refl
enough_bits true true true true false false h (executes el1) out = refl
enough_bits true true false true true false h (executes el1) out = refl
enough_bits true true false true false false h (executes el1) out = refl
enough_bits xnx false true false n k h a out = refl
enough_bits xnx false false false n k h a out = refl
enough_bits xnx false true true n k h a out = impossible (sym h)
enough_bits xnx false false true false k h a out = impossible (sym h)
enough_bits xnx false false true true k h reads out = refl
enough_bits xnx false false true true k h writes out = refl
enough_bits false false false true true k h (executes el) out = refl
enough_bits true false false true true true h (executes el) out = impossible (sym h)
enough_bits true false false true true false h (executes el0) out = refl
enough_bits true false false true true false h (executes el1) out = refl

needed_bits :
    (xnx r w f n k : Bool) → AgreesBits xnx (bit r) (bit w) (bit f) (bit n) (bit k)
    → alike_bits xnx (bit r) (bit w) (bit f) (bit n) (bit k) ≡ true
needed_bits xnx true true false n k h = no_fault (sym (h reads 0))
needed_bits xnx true false false n k h = no_fault (sym (h reads 0))
needed_bits false true w true n k h = refl
needed_bits true true w true n false h = refl
needed_bits true true true true true true h = no_fault (h (executes el1) 0)
needed_bits true true false true true true h = no_fault (h (executes el1) 0)
needed_bits true true true true false true h = no_fault (sym (h (executes el1) 0))
needed_bits true true false true false true h = no_fault (sym (h (executes el1) 0))
needed_bits xnx false w false n k h = refl
needed_bits xnx false true true n k h = no_fault (h writes 0)
needed_bits false false false true false k h = no_fault (h (executes el0) 0)
needed_bits true false false true false k h = no_fault (h (executes el0) 0)
needed_bits false false false true true k h = refl
needed_bits true false false true true false h = refl
needed_bits true false false true true true h = no_fault (h (executes el1) 0)

-- a bit is 0 or 1
two : (v : ℕ) → v < 2 → v ≡ bit (eqb v 1)
two v h = go (eqb v 1) refl
  where
    go : (b : Bool) → eqb v 1 ≡ b → v ≡ bit b
    go true e = eqb-true v 1 e
    go false e = let ne = eqb-false v 1 e in omega (arith, h, ne)

-- what holds of every five bits holds of a word's
module _ (P : ℕ → ℕ → ℕ → ℕ → ℕ → Type 0) (all : (r w f n k : Bool) → P (bit r) (bit w) (bit f) (bit n) (bit k)) (d : ℕ) where
  of_word : P (bits 6 6 d) (bits 7 7 d) (af d) (xn d) (bits 53 53 d)
  of_word =
      rw (
        two (bits 6 6 d) (omega arith),
        two (bits 7 7 d) (omega arith),
        two (af d) (omega arith),
        two (xn d) (omega arith),
        two (bits 53 53 d) (omega arith),
      )
      (all (eqb (bits 6 6 d) 1) (eqb (bits 7 7 d) 1) (eqb (af d) 1) (eqb (xn d) 1) (eqb (bits 53 53 d) 1))

-- S2AP's two bits
both_bits : (d : ℕ) → s2ap d ≡ bits 6 6 d + 2 * bits 7 7 d
both_bits d = omega arith

read_access : (s pa offset : ℕ) (never : Bool) →
    leaf_reach offset (leaf_of pa never (access_named s))
    ≡ pick (eqb s 3) (Some (record { pa = pa + offset; perm = Rw; xn = never }))
    (pick (eqb s 1) (Some (record { pa = pa + offset; perm = Ro; xn = never })) None)
read_access s pa offset never = go (eqb s 3) (eqb s 1) refl refl
  where
    go : (b c : Bool) → eqb s 3 ≡ b → eqb s 1 ≡ c →
        leaf_reach offset (leaf_of pa never (access_named s))
        ≡ pick b (Some (record { pa = pa + offset; perm = Rw; xn = never }))
        (pick c (Some (record { pa = pa + offset; perm = Ro; xn = never })) None)
    go true c e f = rw e
    go false true e f = rw (e, f)
    go false false e f = rw (e, f)

reads_bits : (d pa offset : ℕ) → leaf_reach offset (leaf_at pa d) ≡ read_bits (pa + offset) (bits 6 6 d) (bits 7 7 d) (xn d)
reads_bits d pa offset =
    read_access (s2ap d) pa offset (execute_never d)
    ∙ ap (λ (s : ℕ). pick (eqb s 3) (reach_bits (pa + offset) Rw (xn d)) (pick (eqb s 1) (reach_bits (pa + offset) Ro (xn d)) None))
    (both_bits d)

by_access : (xnx : Bool) (a : Access) (out d : ℕ)
    → leaf xnx a out d ≡ leaf_bits xnx a out (bits 6 6 d) (bits 7 7 d) (af d) (xn d) (bits 53 53 d)
by_access xnx reads out d = refl
by_access xnx writes out d = refl
by_access false (executes el) out d = refl
by_access true (executes el0) out d = refl
by_access true (executes el1) out d = refl

pub leaves_agree : LeavesAgree
leaves_agree = record { enough = enough; needed = needed }
  where
    enough : (xnx : Bool) (d : ℕ) → alike xnx d ≡ true → Agrees xnx d
    enough xnx d h a pa offset =
        let bitwise = of_word (λ r w f n k. alike_bits xnx r w f n k ≡ true → AgreesBits xnx r w f n k) (enough_bits xnx) d h in
        by_access xnx a (pa + offset) d ∙ bitwise a (pa + offset) ∙ ap (allowed a) (sym (reads_bits d pa offset))

    needed : (xnx : Bool) (d : ℕ) → Agrees xnx d → alike xnx d ≡ true
    needed xnx d h =
        of_word (λ r w f n k. AgreesBits xnx r w f n k → alike_bits xnx r w f n k ≡ true) (needed_bits xnx) d
        (λ a out.
        let z : out ≡ out + 0 = omega arith in
        sym (by_access xnx a out d) ∙ ap (λ (o : ℕ). leaf xnx a o d) z ∙ h a out 0
        ∙ ap (allowed a) (reads_bits d out 0 ∙ ap (λ (o : ℕ). read_bits o (bits 6 6 d) (bits 7 7 d) (xn d)) (sym z)))
