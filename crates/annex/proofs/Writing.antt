-- A line that is put moves what is written on.
use Rattle.std.specs.Prelude.{Option, Some, None}
use Rattle.std.specs.Option.{ForSome, option_and_then}
use Prim.Native.Nat.{ℕ, ◌+◌, ◌≤◌}
use mathlib.Core.Bool.{Bool, true, false}
use mathlib.Core.List.{List, [], ◌∷◌, ◌++◌, append_assoc, append-nil}
use mathlib.Core.Path.{◌≡◌, refl, sym, ap, ap₂, subst, ◌∙◌}
use native.Mathlib.Omega.{arith}
use lib.ListN.{length, length-append}
use lib.Seq.{paste}
use Rattle.annex.specs.Writing.{resumed, begun_length, Written, lengthened, line_at}
use Rattle.fields.specs.Named.{pick}
use Rattle.runs.proofs.Joined.{Proper, one_before, two_before}
use Rattle.runs.proofs.Page.{line_length_lem, last_length, page_none, page_next}
use Rattle.runs.specs.Page.{line_length, run_line, last_line, page_of}
use Rattle.runs.specs.Runs.{goes_on, joined, before}
use Rattle.runs.specs.declared.Run.{Run}
use Rattle.text.proofs.Front.{room, length_put, put_next}
use Rattle.text.specs.Front.{in_front, put_at}

-- the same, of equal bytes and of equal runs
pub with_bytes : {text old rest : List ℕ} {at : ℕ} {b c : List ℕ} → b ≡ c → Written text old rest at b → Written text old rest at c
with_bytes {text} {old} {rest} {at} e w = subst (Written text old rest at) e w

pub with_runs :
    {text old : List ℕ} {at : ℕ} {b : List ℕ} (begun : Option Run) {rs ts : List Run} → rs ≡ ts →
    Written text old (page_of (resumed begun rs)) at b → Written text old (page_of (resumed begun ts)) at b
with_runs {text} {old} {at} {b} begun e w = subst (λ (rs : List Run). Written text old (page_of (resumed begun rs)) at b) e w

-- a run that has begun, and does not go on in the first of those that follow
abbrev pub apart : Option Run → List Run → List Run
apart (Some r) rs = r ∷ rs
apart None rs = rs

module _ (r s : Run) (p : Proper r) (q : Proper s) where
  -- as one with the next, it stands before what follows that
  pub is_longer : (t : Run) → lengthened r s ≡ Some t → (rs : List Run) → before r (before s rs) ≡ before t rs
  is_longer t e rs = go (goes_on r s) refl e
    where
      go : (b : Bool) → goes_on r s ≡ b → pick b (Some (joined r s)) None ≡ Some t → before r (before s rs) ≡ before t rs
      go true f g = let same : joined r s ≡ t = cc in rw same at (one_before r s p q f rs)
      go false f g = cc

  pub is_apart : lengthened r s ≡ None → (rs : List Run) → before r (before s rs) ≡ r ∷ before s rs
  is_apart e rs = go (goes_on r s) refl e
    where
      go : (b : Bool) → goes_on r s ≡ b → pick b (Some (joined r s)) None ≡ None → before r (before s rs) ≡ r ∷ before s rs
      go true f g = cc
      go false f g = two_before r s f rs

-- the run that has begun, as one with the next where it goes on in that
abbrev pub Longer : Option Run → Run → Option Run → Type 0
Longer b s (Some t) = (rs : List Run) → resumed b (before s rs) ≡ before t rs
Longer b s None = (rs : List Run) → resumed b (before s rs) ≡ apart b (before s rs)

pub longer : (b : Option Run) (s : Run) → ForSome b Proper → Proper s → Longer b s (option_and_then (λ r. lengthened r s) b)
longer None s p q = λ rs. refl
longer (Some r) s p q = go (lengthened r s) refl
  where
    go : (o : Option Run) → lengthened r s ≡ o → Longer (Some r) s o
    go (Some t) e = is_longer r s (p r refl) q t e
    go None e = is_apart r s (p r refl) q e

resumed_none : (b : Option Run) → resumed b [] ≡ apart b []
unfolding before
resumed_none (Some r) = refl
resumed_none None = refl

module _ (text old : List ℕ) where
  pub put_on :
      (line rest now : List ℕ) (at : ℕ) → Written text old (line ++ rest) at now →
      Written text old rest (at + length line) (put_at line now at)
  put_on line rest now at w =
      let front = w.front in
      record {
        front = front ++ line;
        whole = w.whole ∙ sym (append_assoc front line rest);
        long = ap (λ n. n + length line) w.long ∙ sym (length-append front line);
        kept = length_put line now at ∙ w.kept;
        bytes = λ fits.
            let sum = ap length w.whole ∙ length-append front (line ++ rest) in
            let enough : at + length line ≤ length now = omega (arith, fits, sum, length-append line rest, w.long, w.kept) in
            room line now at enough
            ∙ ap₂ (λ b k. paste b k line (length line)) (w.bytes fits) w.long
            ∙ put_next old front line;
      }

  pub line_on :
      (r : Run) (rs : List Run) (now : List ℕ) (at : ℕ) → Written text old (page_of (r ∷ rs)) at now →
      Written text old (page_of rs) (at + line_length) (put_at (run_line r) now at)
  line_on r rs now at w =
      let put = put_on (run_line r) (page_of rs) now at (subst (λ p. Written text old p at now) (page_next r rs) w) in
      subst (λ n. Written text old (page_of rs) (at + n) (put_at (run_line r) now at)) (line_length_lem r) put

  -- the line of a run that has begun, if there is one
  pub closes :
      (b : Option Run) (rs : List Run) (now : List ℕ) (at : ℕ) → Written text old (page_of (apart b rs)) at now →
      Written text old (page_of rs) (at + begun_length b) (line_at b at now)
  closes (Some r) rs now at w = line_on r rs now at w
  closes None rs now at w =
      let none : at ≡ at + 0 = omega arith in subst (λ n. Written text old (page_of rs) n now) none w

  -- nothing is written yet
  pub none_yet : Written text old text 0 old
  none_yet = record { front = []; whole = refl; long = refl; kept = refl; bytes = λ fits. refl }

  -- all runs are gone through: the line of the last, and the last line
  pub finishes :
      (b : Option Run) (now : List ℕ) (at : ℕ) → Written text old (page_of (resumed b [])) at now →
      Written text old [] (at + begun_length b + line_length) (put_at last_line (line_at b at now) (at + begun_length b))
  finishes b now at w =
      let left = line_at b at now in
      let so_far = at + begun_length b in
      let closed = closes b [] now at (subst (λ (rs : List Run). Written text old (page_of rs) at now) (resumed_none b) w) in
      let last = subst (λ (t : List ℕ). Written text old t so_far left) (page_none ∙ sym (append-nil last_line)) closed in
      subst (λ (n : ℕ). Written text old [] (so_far + n) (put_at last_line left so_far)) last_length
      (put_on last_line [] left so_far last)

  -- nothing is to come
  pub all_long : {at : ℕ} {now : List ℕ} → Written text old [] at now → at ≡ length text
  all_long w = w.long ∙ ap length (sym (append-nil w.front) ∙ sym w.whole)

  pub all_bytes : {at : ℕ} {now : List ℕ} → Written text old [] at now → length text ≤ length old → now ≡ in_front text old
  all_bytes w fits = w.bytes fits ∙ ap (λ t. in_front t old) (sym (append-nil w.front) ∙ sym w.whole)
