-- What is granted lies in an output window, where no table begins and so, both being whole pages, no byte of one stands.
use Rattle.std.specs.Prelude.{Option, Some, None}
use Prim.Native.Nat.{ℕ, ◌+◌, ◌-◌, ◌/◌, ◌%◌, ◌≤◌, ◌<◌}
use mathlib.Core.Bool.{Bool, true, false, false≢true}
use mathlib.Core.List.{List, [], ◌∷◌, flat_map}
use mathlib.Core.Path.{◌≡◌, refl, sym, ap, ◌∙◌}
use native.Mathlib.Omega.{arith}
use lib.Dec.{eqb}
use borrow.Author.Tests.{le-leb, lt-ltb}
use Rattle.accepted_facts.proofs.Guarded.{guarded_facts}
use Rattle.accepted_facts.specs.Accepted.{Nameable}
use Rattle.accepted_facts.specs.Guarded.{Guarded}
use Rattle.desc.specs.Words.{leaf_access_xn}
use Rattle.exposed.specs.Exposed.{lies_in, first_window, first_table}
use Rattle.fields.specs.Named.{pick}
use Rattle.layout.specs.Layout.{layout_of, tables_of}
use Rattle.layout.specs.Size.{page, block, board_limit}
use Rattle.layout.specs.Window.{image_window, windows_of}
use Rattle.layout.specs.declared.Layout.{Layout}
use Rattle.layout.specs.declared.Table.{Table}
use Rattle.layout.specs.declared.Window.{Window}
use Rattle.perm.specs.declared.Perm.TheVariants.{Ro, Rw, Rx}
use Rattle.perm.specs.declared.Perm.{Perm}
use Rattle.reach.specs.declared.Reach.{Reach}
use Rattle.refusal.proofs.All.{all_map, all_both}
use Rattle.refusal.specs.All.{All}
use Rattle.refusal.specs.Table.{first, each_from, pairs}
use Rattle.rows.specs.Rows.{row1, row2, row3, row4, row5, row6, row7, row8, row9, row10, row13, row14, length_rows, map_rows, pair_rows}
use Rattle.rows.specs.Rows.{window_rows, refusals_at, guard_rows, arena_guard_rows}
use Rattle.window_reach.proofs.Contains.{Inside, inside}
use Rattle.window_reach.specs.Granted.{Region, regions_of, contains, reach_at, by_entry, granted_in, granted_by, granted}
use Rattle.demand_2.specs.OutOfReach.{ByteOf, OutOfReach, TableHandedOut}
use Rattle.demand_2.proofs.Demand2.{image_itself, demand_2_whole}

abbrev output_at : Option Reach → ℕ
output_at (Some r) = r.pa
output_at None = 0

-- an entry's answer is at its output address
at_output : (pa : ℕ) (exempt : Bool) (e : ℕ) (r : Reach) → by_entry pa exempt e ≡ Some r → r.pa ≡ pa
at_output pa exempt e r q = go (eqb e 1) (eqb e 2) (eqb e 3) q
  where
    reached : (p : Perm) → reach_at pa (leaf_access_xn p exempt) ≡ Some r → r.pa ≡ pa
    reached p f = sym (ap output_at f)

    go :
        (a b c : Bool) →
        pick a (reach_at pa (leaf_access_xn Ro exempt))
        (pick b (reach_at pa (leaf_access_xn Rw exempt)) (pick c (reach_at pa (leaf_access_xn Rx exempt)) None))
        ≡ Some r →
        r.pa ≡ pa
    go true b c f = reached Ro f
    go false true c f = reached Rw f
    go false false true f = reached Rx f
    go false false false f = absurd (let z : ◌≡◌ {A = ℕ} 0 1 = cc in omega arith)

module _ (x : ℕ) (r : Reach) where
  -- the answer comes from no such region
  abbrev Not-from : Region → Type 0
  Not-from g = Inside g.window x → r.pa ≡ g.window.pa + (x - g.window.ipa) → ⊥

  nowhere : (gs : List Region) → granted_by gs x ≡ Some r → All Not-from gs → ⊥
  unfolding granted_by
  nowhere [] e a = absurd (let z : ◌≡◌ {A = ℕ} 0 1 = cc in omega arith)
  nowhere (g ∷ gs) e a = go (contains g.window x) refl e (λ f. nowhere gs f a.1)
    where
      go :
          (b : Bool) → contains g.window x ≡ b → pick b (granted_in g x) (granted_by gs x) ≡ Some r →
          (granted_by gs x ≡ Some r → ⊥) → ⊥
      go true c f later = a.0 (inside g.window x c) (at_output _ g.exempt (g.entry ((x - g.window.ipa) / g.piece)) r f)
      go false c f later = later f

  module _ (t : Table) (there : t.present ≡ true) (whole : t.pa % page ≡ 0) (byte : ByteOf t r.pa) where
    begins : (pa span away : ℕ) → pa % page ≡ 0 → away < span → r.pa ≡ pa + away → (pa ≤ t.pa) × (t.pa < pa + span)
    begins pa span away a b e = (omega (arith, a, whole, byte.1, e), omega (arith, b, byte.0, e))

    off : (w : Window) → (w.present ≡ true → w.pa % page ≡ 0) → lies_in t w ≡ false → Inside w x → r.pa ≡ w.pa + (x - w.ipa) → ⊥
    off w aligned f i e =
        let b = begins w.pa w.span (x - w.ipa) (aligned i.there) i.before e in
        let l : lies_in t w ≡ true = rw (there, i.there, le-leb _ _ b.0, lt-ltb _ _ b.1) in false≢true (sym f ∙ l)

by_blocks : (n : ℕ) → n % block ≡ 0 → n % page ≡ 0
by_blocks n h = omega (arith, h)

module _ (l : Layout) (base sup : List ℕ) (g : Guarded board_limit base sup l) (x : ℕ) (r : Reach) (e : granted l base sup x ≡ Some r) where
  abbrev image : Window
  image = image_window l.guest_image_pa

  image_pages : image.present ≡ true → image.pa % page ≡ 0
  image_pages p =
      by_blocks image.pa (ap (λ (n : ℕ). n % block) (image_itself l.guest_image_pa) ∙ g.layout.image p)

  -- an output begins with a page
  pages : All (λ w. w.present ≡ true → w.pa % page ≡ 0) (windows_of l)
  pages = (
    image_pages,
    (λ p. g.layout.data_pa, (λ p. by_blocks _ g.layout.sup_pa, (λ p. by_blocks _ (g.layout.devices.0 p), tt))),
  )

  abbrev Clear : Table → Type 0
  Clear t = All (λ w. lies_in t w ≡ false) (windows_of l)

  no_byte : (t : Table) → (t.present ≡ true → Nameable board_limit t) → Clear t → t.present ≡ true → ByteOf t r.pa → ⊥
  no_byte t n a there byte =
      nowhere x r (regions_of l base sup) e
      (all_map (λ g. (g.window.present ≡ true → g.window.pa % page ≡ 0) × (lies_in t g.window ≡ false)) (Not-from x r)
      (λ g b. off x r t there (n there).aligned byte g.window b.0 b.1) (regions_of l base sup)
      (all_both (λ (g : Region). g.window.present ≡ true → g.window.pa % page ≡ 0) (λ (g : Region). lies_in t g.window ≡ false)
      (regions_of l base sup) pages a))

pub out_of_reach : OutOfReach
out_of_reach l base sup words e all apart x r walked =
    let g = guarded_facts board_limit base sup l e in
    let granted_at = sym (demand_2_whole l base sup words e all x).walks ∙ walked in
    all_map (λ t. (t.present ≡ true → Nameable board_limit t) × Clear l base sup g x r granted_at t) _
    (λ t b. no_byte l base sup g x r granted_at t b.0 b.1) (tables_of l)
    (all_both (λ (t : Table). t.present ≡ true → Nameable board_limit t) (Clear l base sup g x r granted_at) (tables_of l)
    g.layout.tables apart)

pub table_handed_out : TableHandedOut
unfolding layout_of first flat_map each_from pairs row1 row2 row3 row4 row5 row6 row7 row8 row9 row10 row13 row14 length_rows map_rows pair_rows
    window_rows refusals_at guard_rows arena_guard_rows granted_by first_window first_table
table_handed_out = record { lets_by = refl; reached = refl; told = refl }
