-- The word that encoding into zeros leaves, by its table: at a place of the arena, and at an index of the table.
use Prim.Native.Nat.{ℕ, ◌+◌, ◌-◌, ◌*◌, ◌<◌}
use mathlib.Core.List.{List}
use mathlib.Core.Path.{◌≡◌, ap, ◌∙◌}
use native.Mathlib.Omega.{arith}
use borrow.Author.Tests.{eq-eqb}
use Rattle.arena.proofs.At.{image_at, data_at, at_1, at_2, at_3, at_none, run_4, run_5, run_6}
use Rattle.arena.proofs.Runs.{inside}
use Rattle.arena.specs.Encoded.{Run, table_of, index_of, word_at, page_at, super_run, device_run, target}
use Rattle.layout.specs.Size.{entries}
use Rattle.layout.specs.Window.{device_window}
use Rattle.layout.specs.declared.Layout.{Layout}
use Rattle.target_word.specs.Run.{run_at}

in_run : (r : Run) (i : ℕ) → table_of i ≡ r.table → word_at r i ≡ run_at r (index_of i)
unfolding word_at
in_run r i t = rw (eq-eqb _ _ t)

module _ (l : Layout) (base sup : List ℕ) (i : ℕ) where
  pub at_4 : table_of i ≡ 4 → target l base sup i ≡ page_at l.data_pa_base base (index_of i)
  at_4 t =
      let first : index_of i - 0 ≡ index_of i = omega arith in
      run_4 l base sup i t
      ∙ inside 4 0 entries (page_at l.data_pa_base base) i t (omega arith) (omega arith)
      ∙ ap (page_at l.data_pa_base base) first

  pub at_5 : table_of i ≡ 5 → target l base sup i ≡ run_at (super_run l sup) (index_of i)
  at_5 t = run_5 l base sup i t ∙ in_run (super_run l sup) i t

  pub at_6 : table_of i ≡ 6 → target l base sup i ≡ run_at (device_run 6 (device_window l)) (index_of i)
  at_6 t = run_6 l base sup i t ∙ in_run (device_run 6 (device_window l)) i t

-- each table, and past the last
pub ruleset by_table = (at_1, at_2, at_3, at_4, at_5, at_6, at_none)

module _ (l : Layout) (base sup : List ℕ) (j : ℕ) (h : j < entries) where
  pub in_2 : target l base sup (entries + j) ≡ image_at l j
  in_2 = at_2 l base sup (entries + j) (omega (arith, h)) ∙ ap (image_at l) (omega (arith, h))

  pub in_3 : target l base sup (2 * entries + j) ≡ data_at l j
  in_3 = at_3 l base sup (2 * entries + j) (omega (arith, h)) ∙ ap (data_at l) (omega (arith, h))

  pub in_4 : target l base sup (3 * entries + j) ≡ page_at l.data_pa_base base j
  in_4 = at_4 l base sup (3 * entries + j) (omega (arith, h)) ∙ ap (page_at l.data_pa_base base) (omega (arith, h))

  pub in_5 : target l base sup (4 * entries + j) ≡ word_at (super_run l sup) (4 * entries + j)
  in_5 = run_5 l base sup (4 * entries + j) (omega (arith, h))

  pub in_6 : target l base sup (5 * entries + j) ≡ word_at (device_run 6 (device_window l)) (5 * entries + j)
  in_6 = run_6 l base sup (5 * entries + j) (omega (arith, h))
