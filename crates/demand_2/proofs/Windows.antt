-- What is seen of an address in a window's own slot: one lemma for windows of blocks, one for pages.
use Rattle.std.specs.Prelude.{None}
use Prim.Native.Nat.{ℕ, ◌+◌, ◌-◌, ◌*◌, ◌/◌, ◌%◌, ◌≤◌, ◌<◌}
use mathlib.Core.Bool.{Bool, true, false, false≢true}
use mathlib.Core.List.{List}
use mathlib.Core.Path.{◌≡◌, refl, sym, ap, subst, ◌∙◌}
use native.Mathlib.Omega.{arith}
use lib.Dec.{leb, ltb}
use lib.ListN.{get_or}
use borrow.Author.Tests.{leb-true, leb-false, ltb-true, ltb-false}
use Rattle.accepted_facts.specs.Accepted.{Within}
use Rattle.arena.proofs.Runs.{run_before, run_past, run_inside}
use Rattle.arena.specs.Encoded.{Run, word_at}
use Rattle.demand_2.proofs.Entries.{Entry, unmapped, mapped}
use Rattle.demand_2.proofs.Leaves.{PageLeaf, BlockLeaf}
use Rattle.demand_2.proofs.Parts.{In}
use Rattle.demand_2.proofs.Seen.{Names-table, Finds, Seen, blank2, blank3, block2, page3}
use Rattle.demand_2.proofs.Slots.{block_from, block_back, block_offset}
use Rattle.descent.specs.Descent.{Words, index}
use Rattle.fields.specs.Named.{pick}
use Rattle.layout.specs.Size.{entries, page, block, input_limit}
use Rattle.layout.specs.Window.{l1_slot, l2_slot, slot}
use Rattle.window_reach.proofs.Contains.{Inside, inside, contained}
use Rattle.window_reach.specs.Granted.{Region, contains, reach_at, by_entry, granted_in}

-- a window of one block, by pages
page_block : (first x span : ℕ) → l2_slot x ≡ l2_slot first + (x - first) / block → x - first < span → span ≡ block → l2_slot first ≡ l2_slot x
page_block first x span at a b = let z : (x - first) / block ≡ 0 = omega (arith, a, b) in omega (arith, at, z)

page_piece : (first x span : ℕ) → first % block ≡ 0 → first ≤ x → x - first < span → span ≡ block → (x - first) / page ≡ index 0 x
page_piece first x span a b c d = omega arith

page_sum :
    (pa first x span : ℕ) → first % block ≡ 0 → first ≤ x → x - first < span → span ≡ block →
    pa + index 0 x * page + x % page ≡ pa + (x - first)
page_sum pa first x span a b c d = omega arith

module _ (tables : List ℕ) (words : Words) (x : ℕ) where
  module _
      (limit : ℕ) (r : Region) (here : r.window.present ≡ true) (within : Within limit r.window) (pieces : r.piece ≡ block)
      (aligned : r.window.ipa % block ≡ 0)
      (whole : r.window.span % block ≡ 0)
      (low : x < input_limit)
      (same : l1_slot x ≡ slot r.window)
      (d t : ℕ)
      (at1 : Finds tables words x 2 (get_or tables 0 0) d)
      (names : Names-table d t)
      (k : ℕ)
      (u : Run)
      (table : u.table ≡ 1 + k)
      (starts : u.from ≡ l2_slot r.window.ipa)
      (counts : u.count ≡ r.window.span / block)
      (reads : Finds tables words x 1 t (word_at u (k * entries + l2_slot x)))
      (entry : (p : ℕ) → p < r.window.span / block → Entry BlockLeaf (u.word p) (r.window.pa + p * block) r.exempt (r.entry p))
    where
      abbrev ipa : ℕ
      ipa = r.window.ipa

      abbrev away : ℕ
      away = x - ipa

      abbrev from : ℕ
      from = l2_slot ipa

      abbrev word : ℕ → ℕ
      word = u.word

      -- the words of the window's run: none before it and past it

      before : l2_slot x < from → Finds tables words x 1 t 0
      before h out = reads out ∙ run_before (l2_slot x) (omega arith) k u table (omega (arith, h, starts))

      past : from + r.window.span / block ≤ l2_slot x → Finds tables words x 1 t 0
      past h out = reads out ∙ run_past (l2_slot x) (omega arith) k u table (omega (arith, h, starts, counts))

      between : from ≤ l2_slot x → l2_slot x < from + r.window.span / block → Finds tables words x 1 t (word (l2_slot x - from))
      between a b out =
          reads out
          ∙ run_inside (l2_slot x) (omega arith) k u table (omega (arith, a, starts)) (omega (arith, b, starts, counts))
          ∙ ap (λ (n : ℕ). word (l2_slot x - n)) starts

      nothing : Finds tables words x 1 t 0 → Seen tables words x None
      nothing f = blank2 d t at1 names f

      -- the address is in the window: the word is its piece's
      granted : Inside r.window x → Seen tables words x (granted_in r x)
      granted i =
          let p = away / block in
          let at = block_from ipa r.window.span x within.below within.inside aligned whole low same i.from i.before in
          let few : p < r.window.span / block = omega (arith, i.before, whole) in
          let found : Finds tables words x 1 t (word p) =
          subst (λ (n : ℕ). Finds tables words x 1 t (word n)) (omega (arith, at)) (between (omega (arith, at)) (omega (arith, at, few))) in
          go (entry p few) found
        where
          by_piece : granted_in r x ≡ by_entry (r.window.pa + away) r.exempt (r.entry (away / block))
          by_piece = ap (λ (k : ℕ). by_entry (r.window.pa + away) r.exempt (r.entry (away / k))) pieces

          go :
              Entry BlockLeaf (word (away / block)) (r.window.pa + away / block * block) r.exempt (r.entry (away / block)) →
              Finds tables words x 1 t (word (away / block)) → Seen tables words x (granted_in r x)
          go (unmapped z none) f =
              subst (Seen tables words x) (sym (by_piece ∙ none (r.window.pa + away))) (nothing (λ out. f out ∙ z))
          go (mapped a leaf says) f =
              let sum : r.window.pa + away / block * block + x % block ≡ r.window.pa + away =
              let o = block_offset ipa r.window.span x within.below within.inside aligned whole low same i.from in
              omega (arith, o) in
              subst (Seen tables words x) (ap (λ (n : ℕ). reach_at n a) sum ∙ sym (by_piece ∙ says (r.window.pa + away)))
              (block2 d t (word (away / block)) (r.window.pa + away / block * block) a at1 names f leaf)

      outside : contains r.window x ≡ false → Seen tables words x None
      outside e = go (leb from (l2_slot x)) (ltb (l2_slot x) (from + r.window.span / block)) refl refl
        where
          go : (b c : Bool) → leb from (l2_slot x) ≡ b → ltb (l2_slot x) (from + r.window.span / block) ≡ c → Seen tables words x None
          go false c p q = nothing (before (leb-false _ _ p))
          go true false p q = nothing (past (ltb-false _ _ q))
          go true true p q =
              let b = block_back ipa r.window.span x within.below within.inside aligned whole low same (leb-true _ _ p)
              (ltb-true _ _ q) in
              absurd (false≢true (sym e ∙ contained r.window x (record { there = here; from = b.0; before = b.1 })))

      pub block_window : Seen tables words x (In x r)
      block_window = go (contains r.window x) refl
        where
          go : (b : Bool) → contains r.window x ≡ b → Seen tables words x (pick b (granted_in r x) None)
          go true e = granted (inside r.window x e)
          go false e = outside e

  module _
      (limit : ℕ) (r : Region) (here : r.window.present ≡ true) (within : Within limit r.window) (pieces : r.piece ≡ page)
      (aligned : r.window.ipa % block ≡ 0)
      (whole : r.window.span ≡ block)
      (low : x < input_limit)
      (same : l1_slot x ≡ slot r.window)
      (d t e u : ℕ)
      (at1 : Finds tables words x 2 (get_or tables 0 0) d)
      (names : Names-table d t)
      (other : (l2_slot r.window.ipa ≡ l2_slot x → ⊥) → Finds tables words x 1 t 0)
      (at2 : l2_slot r.window.ipa ≡ l2_slot x → Finds tables words x 1 t e)
      (names2 : Names-table e u)
      (word : ℕ → ℕ)
      (at3 : Finds tables words x 0 u (word (index 0 x)))
      (entry : (p : ℕ) → p < entries → Entry PageLeaf (word p) (r.window.pa + p * page) r.exempt (r.entry p))
    where
      abbrev first : ℕ
      first = r.window.ipa

      multiple : r.window.span % block ≡ 0
      multiple = omega (arith, whole)

      in_page : Inside r.window x → Seen tables words x (granted_in r x)
      in_page i = go (entry (index 0 x) (omega arith))
        where
          there : l2_slot first ≡ l2_slot x
          there =
              let at = block_from first r.window.span x within.below within.inside aligned multiple low same i.from
              i.before in
              page_block first x r.window.span at i.before whole

          by_piece : granted_in r x ≡ by_entry (r.window.pa + (x - first)) r.exempt (r.entry (index 0 x))
          by_piece =
              ap (λ (k : ℕ). by_entry (r.window.pa + (x - first)) r.exempt (r.entry ((x - first) / k))) pieces
              ∙ ap (λ (k : ℕ). by_entry (r.window.pa + (x - first)) r.exempt (r.entry k))
              (page_piece first x r.window.span aligned i.from i.before whole)

          go : Entry PageLeaf (word (index 0 x)) (r.window.pa + index 0 x * page) r.exempt (r.entry (index 0 x))
              → Seen tables words x (granted_in r x)
          go (unmapped z none) =
              subst (Seen tables words x) (sym (by_piece ∙ none (r.window.pa + (x - first))))
              (blank3 d t e u at1 names (at2 there) names2 (λ out. at3 out ∙ z))
          go (mapped a leaf says) =
              subst (Seen tables words x)
              (ap (λ (n : ℕ). reach_at n a) (page_sum r.window.pa first x r.window.span aligned i.from i.before whole)
              ∙ sym (by_piece ∙ says (r.window.pa + (x - first))))
              (page3 d t e u (word (index 0 x)) (r.window.pa + index 0 x * page) a at1 names (at2 there) names2 at3 leaf)

      off_page : contains r.window x ≡ false → Seen tables words x None
      off_page f = blank2 d t at1 names (other elsewhere)
        where
          elsewhere : l2_slot first ≡ l2_slot x → ⊥
          elsewhere q =
              let b = block_back first r.window.span x within.below within.inside aligned multiple low same (omega (arith, q))
              (omega (arith, q, whole)) in
              false≢true (sym f ∙ contained r.window x (record { there = here; from = b.0; before = b.1 }))

      pub page_window : Seen tables words x (In x r)
      page_window = go (contains r.window x) refl
        where
          go : (b : Bool) → contains r.window x ≡ b → Seen tables words x (pick b (granted_in r x) None)
          go true q = in_page (inside r.window x q)
          go false q = off_page q
