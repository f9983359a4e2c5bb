-- The pieces of an answer are what is printed of its scene.
use Rattle.std.specs.Prelude.{Result, Ok, Err}
use Prim.Native.Nat.{ℕ, ◌<◌}
use mathlib.Core.List.{List, append-nil, flat_map}
use mathlib.Core.Path.{◌≡◌, ap, ◌∙◌}
use native.Mathlib.Omega.{arith}
use lib.ListN.{length, replicate, length-replicate}
use borrow.Author.Tests.{eq-eqb}
use Rattle.arena.specs.Encoded.{target}
use Rattle.encode.specs.Encoding.{Encoding}
use Rattle.layout.specs.Size.{dump_limit, arena_length}
use Rattle.layout.specs.declared.Layout.{Layout}
use Rattle.printed.specs.Line.{bad_line, refused_line}
use Rattle.refusal.specs.Table.{Row, Outcome, accepted, refused, first}
use Rattle.rows.specs.Rows.{row1, guard_rows, arena_guard_rows}
use Rattle.encode_theorems.proofs.Arena.{from_zeros}
use Rattle.dump.specs.Dump.{in_order, line_at, printed_by}
use Rattle.dump.specs.Pieces.{piece_at, pieces}
use Rattle.dump.specs.declared.Undumped.TheVariants.{BadLine, Refused}
use Rattle.dump.specs.declared.Undumped.{Undumped}
use Rattle.dump.proofs.InOrder.{same_texts, alone_all}

pub bad_pieces : (words : List ℕ) → 0 < length words → pieces (Err BadLine) words ≡ bad_line
unfolding piece_at
bad_pieces words some = alone_all bad_line (length words) some

pub refused_pieces : (number : ℕ) (words : List ℕ) → 0 < length words → pieces (Err (Refused number)) words ≡ refused_line number
unfolding piece_at
refused_pieces number words some = alone_all (refused_line number) (length words) some

-- an arena as long as it must be is no row's
let_by : (limit : ℕ) (arena base sup : List ℕ) (l : Layout) → length arena ≡ arena_length →
    first (arena_guard_rows limit arena base sup l) ≡ first (guard_rows limit base sup l)
unfolding arena_guard_rows row1 flat_map
let_by limit arena base sup l e = rw (eq-eqb _ _ e) (ap first (append-nil (guard_rows limit base sup l)))

module _ (l : Layout) (base sup new : List ℕ) where
  abbrev pub Encodes : Outcome → Type 0
  Encodes outcome = Encoding dump_limit l base sup (replicate arena_length 0) outcome new

  abbrev pub Printed : Result Unit Undumped → Type 0
  Printed answer = pieces answer new ≡ printed_by (first (guard_rows dump_limit base sup l)) (target l base sup)

  zeros_long : ◌≡◌ {A = ℕ} (length {A = ℕ} (replicate arena_length 0)) arena_length
  zeros_long = length-replicate {A = ℕ} arena_length 0

  decided : (outcome : Outcome) → Encodes outcome → outcome ≡ first (guard_rows dump_limit base sup l)
  decided outcome e = e.answer ∙ let_by dump_limit (replicate arena_length 0) base sup l zeros_long

  long : (outcome : Outcome) → Encodes outcome → length new ≡ arena_length
  long outcome e = e.words.long ∙ zeros_long

  pub words_pieces : Encodes accepted → Printed (Ok tt)
  unfolding piece_at
  words_pieces e =
      let word = (from_zeros dump_limit l base sup new e).word in
      ap (in_order (piece_at (Ok tt) new) 0) (long accepted e)
      ∙ same_texts (piece_at (Ok tt) new) (λ i. line_at i (target l base sup i)) 0 arena_length
      (λ i less. ap (line_at i) (word i (omega (arith, less, zeros_long))))
      ∙ ap (λ o. printed_by o (target l base sup)) (decided accepted e)

  pub refused_printed : (r : Row) → Encodes (refused r) → Printed (Err (Refused r.number))
  refused_printed r e =
      refused_pieces r.number new (omega (arith, long (refused r) e))
      ∙ ap (λ o. printed_by o (target l base sup)) (decided (refused r) e)
