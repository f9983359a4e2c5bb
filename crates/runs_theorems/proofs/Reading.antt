-- The digits of a number are read as the number, and each part of a line stands where it is read.
use Rattle.std.specs.Prelude.{Some, None}
use Prim.Native.Nat.{ℕ, zero, suc, ◌+◌, ◌-◌, ◌*◌, ◌/◌, ◌%◌, ◌^◌, ◌≤◌, ◌<◌}
use mathlib.Core.Bool.{Bool, true, false}
use mathlib.Core.List.{List, [], ◌∷◌}
use mathlib.Core.Logic.{◌⊎◌, inl, inr}
use mathlib.Core.Path.{◌≡◌, refl, sym, ap, ap₂, subst, ◌∙◌}
use native.Mathlib.Nat.{pow-suc, div-lt_iff_lt-mul}
use native.Mathlib.Omega.{arith}
use lib.Dec.{ltb}
use lib.ListN.{take, drop, get_or}
use lib.Seq.{take_at, drop_at}
use borrow.Author.Tests.{ltb-true, ltb-false, le-leb, lt-leb}
use Rattle.std.proofs.lemmas.List.Sums.{fold-append}
use Rattle.fields.specs.Ascii.{ascii}
use Rattle.perm.specs.Perm.{perm_writes}
use Rattle.perm.specs.declared.Perm.{Perm}
use Rattle.perm.specs.declared.Perm.TheVariants.{Ro, Rw, Rx}
use Rattle.runs.proofs.Page.{line_length_lem, page_none, page_next}
use Rattle.runs.specs.Page.{line_length, run_line, last_line, page_of}
use Rattle.runs.specs.declared.Run.{Run}
use Rattle.scene_line.specs.Line.{digit_of, with_digit, with_digits, number_of}
use Rattle.text.specs.Digits.{glyph, digits}
use Rattle.runs_theorems.proofs.Chain.{with_all}
use Rattle.runs_theorems.specs.Reading.{Spelled, part, LineTells, PageTells, PagesAreRead, OneReading}

digit_read : (d : ℕ) → d < 16 → digit_of (glyph d) ≡ Some d
unfolding digit_of
digit_read d h = go (ltb d 10) refl
  where
    go : (b : Bool) → ltb d 10 ≡ b → digit_of (glyph d) ≡ Some d
    go true e =
        let less : d < 10 = ltb-true d 10 e in
        let back : 0x30 + d - 0x30 ≡ d = omega arith in
        rw (e, le-leb 0x30 (0x30 + d) (omega arith), le-leb (0x30 + d) 0x39 (omega (arith, less)), back) refl
    go false e =
        let more : 10 ≤ d = ltb-false d 10 e in
        let back : 0x41 + (d - 10) - 0x41 + 10 ≡ d = omega (arith, more) in
        rw (
          e,
          le-leb 0x30 (0x41 + (d - 10)) (omega arith),
          lt-leb (0x41 + (d - 10)) 0x39 (omega arith),
          le-leb 0x41 (0x41 + (d - 10)) (omega arith),
          le-leb (0x41 + (d - 10)) 0x46 (omega (arith, h)),
          back,
        ) refl

digits_read : (k n : ℕ) → n < 16 ^ k → with_digits (Some 0) (digits k n) ≡ Some n
digits_read zero n h = let none : 0 ≡ n = omega (arith, h) in ap Some none
digits_read (suc k) n h =
    let fits : n / 16 < 16 ^ k = (div-lt_iff_lt-mul {k = 16} (omega arith)).1 (rw pow-suc at h) in
    let whole : n / 16 * 16 + n % 16 ≡ n = omega arith in
    fold-append (λ m c. with_digit m (digit_of c)) (Some 0) (digits k (n / 16)) (glyph (n % 16) ∷ [])
    ∙ ap₂ with_digit (digits_read k (n / 16) fits) (digit_read (n % 16) (omega arith))
    ∙ ap Some whole

module _ (r : Run) (s : Spelled r) where
  first_read : number_of (part (run_line r) 0 10) ≡ Some r.first
  unfolding run_line number_of
  first_read = digits_read 10 r.first (omega (arith, s.proper, s.addresses))

  last_read : number_of (part (run_line r) 11 10) ≡ Some r.last
  unfolding run_line number_of
  last_read = digits_read 10 r.last s.addresses

  output_read : number_of (part (run_line r) 22 12) ≡ Some r.pa
  unfolding run_line number_of
  output_read = digits_read 12 r.pa (omega (arith, s.outputs))

  access_read : ((r.perm ≡ Ro) × (part (run_line r) 35 2 ≡ ascii "RO")) ⊎ ((r.perm ≡ Rw) × (part (run_line r) 35 2 ≡ ascii "RW"))
  unfolding run_line
  access_read = go r.perm refl
    where
      go : (p : Perm) → r.perm ≡ p →
          ((r.perm ≡ Ro) × (part (run_line r) 35 2 ≡ ascii "RO")) ⊎ ((r.perm ≡ Rw) × (part (run_line r) 35 2 ≡ ascii "RW"))
      go Ro e = inl (e, rw e refl)
      go Rw e = inr (e, rw e refl)
      go Rx e = absurd (s.access e)

  execute_read : ((r.xn ≡ false) × (part (run_line r) 38 1 ≡ ascii "X")) ⊎ ((r.xn ≡ true) × (part (run_line r) 38 1 ≡ ascii "-"))
  unfolding run_line
  execute_read = go (perm_writes r.perm) r.xn refl refl
    where
      go : (w x : Bool) → perm_writes r.perm ≡ w → r.xn ≡ x →
          ((r.xn ≡ false) × (part (run_line r) 38 1 ≡ ascii "X")) ⊎ ((r.xn ≡ true) × (part (run_line r) 38 1 ≡ ascii "-"))
      go true true p e = inr (e, rw (p, e) refl)
      go false true p e = inr (e, rw (p, e) refl)
      go true false p e = inl (e, rw (p, e) refl)
      go false false p e = inl (e, rw (p, e) refl)

  line_tells : LineTells (run_line r) r
  line_tells =
      record { first = first_read; last = last_read; output = output_read; access = access_read; execute = execute_read }

pub pages_are_read : PagesAreRead
unfolding last_line
pages_are_read [] s = page_none
pages_are_read (r ∷ rs) s =
    let split = page_next r rs in
    let line = ap (take line_length) split ∙ take_at (run_line r) (page_of rs) line_length (line_length_lem r) in
    let rest = ap (drop line_length) split ∙ drop_at (run_line r) (page_of rs) line_length (line_length_lem r) in (
      subst (λ l. LineTells l r) (sym line) (line_tells r s.0),
      subst (λ p. PageTells p rs) (sym rest) (pages_are_read rs s.1),
    )

-- a number that is read is one number
same_value : (a b : ℕ) → Some a ≡ Some b → a ≡ b
same_value a b e = cc

no_value : (a : ℕ) → None ≡ Some a → ⊥
no_value a e = let z : ◌≡◌ {A = ℕ} 0 1 = cc in omega arith

one_run : (line : List ℕ) (r t : Run) → LineTells line r → LineTells line t → r ≡ t
one_run line r t a b =
    with_all r t
    (same_value _ _ (sym a.first ∙ b.first))
    (same_value _ _ (sym a.last ∙ b.last))
    (same_value _ _ (sym a.output ∙ b.output))
    (access a.access b.access)
    (execute a.execute b.execute)
  where
    access :
        ((r.perm ≡ Ro) × (part line 35 2 ≡ ascii "RO")) ⊎ ((r.perm ≡ Rw) × (part line 35 2 ≡ ascii "RW")) →
        ((t.perm ≡ Ro) × (part line 35 2 ≡ ascii "RO")) ⊎ ((t.perm ≡ Rw) × (part line 35 2 ≡ ascii "RW")) → r.perm ≡ t.perm
    access (inl p) (inl q) = p.0 ∙ sym q.0
    access (inr p) (inr q) = p.0 ∙ sym q.0
    access (inl p) (inr q) = absurd (other (sym p.1 ∙ q.1))
      where
        other : ascii "RO" ≡ ascii "RW" → ⊥
        other e = omega (arith, ap (λ l. get_or l 1 0) e)
    access (inr p) (inl q) = absurd (other (sym q.1 ∙ p.1))
      where
        other : ascii "RO" ≡ ascii "RW" → ⊥
        other e = omega (arith, ap (λ l. get_or l 1 0) e)

    execute :
        ((r.xn ≡ false) × (part line 38 1 ≡ ascii "X")) ⊎ ((r.xn ≡ true) × (part line 38 1 ≡ ascii "-")) →
        ((t.xn ≡ false) × (part line 38 1 ≡ ascii "X")) ⊎ ((t.xn ≡ true) × (part line 38 1 ≡ ascii "-")) → r.xn ≡ t.xn
    execute (inl p) (inl q) = p.0 ∙ sym q.0
    execute (inr p) (inr q) = p.0 ∙ sym q.0
    execute (inl p) (inr q) = absurd (other (sym p.1 ∙ q.1))
      where
        other : ascii "X" ≡ ascii "-" → ⊥
        other e = omega (arith, ap (λ l. get_or l 0 0) e)
    execute (inr p) (inl q) = absurd (other (sym q.1 ∙ p.1))
      where
        other : ascii "X" ≡ ascii "-" → ⊥
        other e = omega (arith, ap (λ l. get_or l 0 0) e)

-- the last line tells no run
no_run : (page : List ℕ) (r : Run) → page ≡ ascii "=======================================\n" → LineTells (take line_length page) r → ⊥
unfolding number_of digit_of
no_run page r e a =
    let none : number_of (part (take line_length page) 0 10) ≡ None = ap (λ (p : List ℕ). number_of (part (take line_length p) 0 10)) e in
    no_value r.first (sym none ∙ a.first)

pub one_reading : OneReading
one_reading page [] [] a b = refl
one_reading page [] (t ∷ ts) a b = absurd (no_run page t a b.0)
one_reading page (r ∷ rs) [] a b = absurd (no_run page r b a.0)
one_reading page (r ∷ rs) (t ∷ ts) a b =
    ap₂ (λ (u : Run) (us : List Run). u ∷ us) (one_run (take line_length page) r t a.0 b.0)
    (one_reading (drop line_length page) rs ts a.1 b.1)
