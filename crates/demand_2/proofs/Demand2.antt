-- Demand 2: in the slot of each window the descent sees what its region grants, and in no window's slot nothing.
use Rattle.std.specs.Prelude.{Option, Some, None}
use Rattle.reach.specs.declared.Reach.{Reach}
use Prim.Native.Nat.{ℕ, suc, ◌+◌, ◌-◌, ◌*◌, ◌/◌, ◌%◌, ◌≤◌, ◌<◌}
use mathlib.Core.Bool.{Bool, true, false, false≢true}
use mathlib.Core.List.{List, [], ◌∷◌}
use mathlib.Core.Path.{◌≡◌, refl, sym, ap, subst, ◌∙◌}
use native.Mathlib.Omega.{arith}
use lib.Dec.{ltb}
use lib.ListN.{get_or, take, replicate, length-replicate}
use borrow.Author.Tests.{eqb-true, eq-eqb, ne_eqb, ltb-true, ltb-false}
use Rattle.accepted_facts.proofs.Guarded.{guarded_facts, arena_guarded_facts}
use Rattle.accepted_facts.proofs.Windows.{image_within, data_within, super_within, devices_within}
use Rattle.accepted_facts.specs.Accepted.{Aligned, Nameable, Within, Apart}
use Rattle.accepted_facts.specs.Guarded.{Guarded}
use Rattle.areas.specs.Area.{area_has}
use Rattle.arena.proofs.At.{l1_at, data_at, at_1, at_3, run_2, run_4, run_5, run_6}
use Rattle.arena.proofs.Runs.{table_of_lem, index_of_lem, run_inside}
use Rattle.arena.specs.Encoded.{Run, page_at, table_of, word_at, page_run, super_run, device_run, image_run, target}
use Rattle.arena.specs.Word.{table_to, image_to, device_to}
use Rattle.decode.specs.Emitted.{Output}
use Rattle.demand_2.specs.Demand2.{addresses_of, Reaches, Demand2, Demand2Whole, Demand2Encoded}
use Rattle.demand_2.proofs.Entries.{Entry, page_entry, block_entry, image_entry_lem, device_entry_lem}
use Rattle.demand_2.proofs.Fetched.{both, all_present, present_at, fetched}
use Rattle.demand_2.proofs.Leaves.{BlockLeaf}
use Rattle.demand_2.proofs.Parts.{Part, part, area_in, In, seen_in}
use Rattle.demand_2.proofs.Path.{seen_along, whole_path}
use Rattle.demand_2.proofs.Seen.{Names-table, table_names, Finds, Seen, blank1, walk_seen, manual_seen}
use Rattle.demand_2.proofs.Windows.{block_window, page_window}
use Rattle.descent.specs.Descent.{Words, words_of, index}
use Rattle.descent.specs.Path.{PathAgrees}
use Rattle.encode_theorems.proofs.Arena.{from_zeros}
use Rattle.fields.specs.Named.{pick}
use Rattle.layout.specs.Layout.{table_if, tables_of}
use Rattle.layout.specs.Size.{entries, page, block, input_limit, board_limit, table_count, arena_length}
use Rattle.layout.specs.Window.{image_window, device_window, l1_slot, l2_slot}
use Rattle.layout.specs.declared.Layout.{Layout}
use Rattle.layout.specs.declared.Window.{Window}
use Rattle.manual.specs.Translation.{translation}
use Rattle.perm.specs.Perm.{perm_code}
use Rattle.perm.specs.declared.Perm.TheVariants.{Rw, Rx}
use Rattle.refusal.proofs.All.{all_at, all_map, all_always, pairs_map}
use Rattle.walk.specs.Walk.{walk_of}
use Rattle.window_reach.proofs.Grants.{granted_none}
use Rattle.window_reach.proofs.Slot.{not_here, past_limit}
use Rattle.window_reach.specs.Granted.{Region, image_region, data_region, super_region, device_region, regions_of, contains, granted}

-- an image is one block, mapped to itself
image_span : (i : Option ℕ) → (image_window i).present ≡ true → (image_window i).span ≡ block
image_span (Some pa) e = refl
image_span None e = absurd (false≢true e)

pub image_itself : (i : Option ℕ) → (image_window i).pa ≡ (image_window i).ipa
image_itself (Some pa) = refl
image_itself None = refl

-- the output of a block of a window, and of a page
block_output : (pa span p : ℕ) → Aligned pa → pa + span ≤ board_limit → p < span / block → Output 21 (pa + p * block)
block_output pa span p a b c = record { below = omega arith; aligned = omega arith }

page_output : (pa p : ℕ) → pa % page ≡ 0 → pa + entries * page ≤ board_limit → p < entries → Output 12 (pa + p * page)
page_output pa p a b c = record { below = omega arith; aligned = omega arith }

-- a region of blocks, whose words are a run of the table with k tables before it
record Blocks (k : ℕ) (r : Region) (u : Run) : Type 0 where
  pieces : r.piece ≡ block
  within : Within board_limit r.window
  aligned : Aligned r.window.ipa
  whole : Aligned r.window.span
  table : u.table ≡ 1 + k
  starts : u.from ≡ l2_slot r.window.ipa
  counts : u.count ≡ r.window.span / block
  entry : (p : ℕ) → p < r.window.span / block → Entry BlockLeaf (u.word p) (r.window.pa + p * block) r.exempt (r.entry p)

-- a device maps an address to itself
device_blocks :
    (k : ℕ) (w : Window) → w.pa ≡ w.ipa → Within board_limit w → Aligned w.ipa → Aligned w.span →
    Blocks k (device_region w) (device_run (1 + k) w)
device_blocks k w itself within aligned whole =
    record {
      pieces = refl;
      within = within;
      aligned = aligned;
      whole = whole;
      table = refl;
      starts = refl;
      counts = refl;
      entry = λ p h.
          subst (λ (n : ℕ). Entry BlockLeaf (device_to (w.ipa + p * block)) (n + p * block) false (perm_code Rw)) (sym itself)
          (device_entry_lem (w.ipa + p * block) (block_output w.ipa w.span p aligned (omega (arith, itself, within.output)) h));
    }

module _ (l : Layout) (base sup : List ℕ) (g : Guarded board_limit base sup l) where
  -- each region, and the table that its level 1 word names
  abbrev parts : List Part
  parts =
      part (image_region l) l.l2_code_pa
      ∷ part (data_region l base) l.l2_data_pa
      ∷ part (super_region l sup) l.l2_sup_pa
      ∷ part (device_region (device_window l)) l.l2_dev_pa
      ∷ []

  abbrev image : Window
  image = image_window l.guest_image_pa

  image_blocks : image.present ≡ true → Blocks 1 (image_region l) (image_run l)
  image_blocks there =
      let w = image_within g.layout there in
      let s = image_span l.guest_image_pa there in
      let itself : Aligned image.pa = ap (λ (n : ℕ). n % block) (image_itself l.guest_image_pa) ∙ g.layout.image there in
      record {
        pieces = refl;
        within = w;
        aligned = g.layout.image there;
        whole = omega (arith, s);
        table = refl;
        starts = refl;
        counts = let one : image.span / block ≡ 1 = omega (arith, s) in rw there (sym one);
        entry = λ p h. let z : image.pa ≡ image.pa + p * block = omega (arith, h, s) in
            subst (λ (n : ℕ). Entry BlockLeaf (image_to image.pa) n false (perm_code Rx)) z
            (image_entry_lem image.pa (record { below = omega (arith, w.output, s); aligned = itself }));
      }

  super_blocks : Blocks 4 (super_region l sup) (super_run l sup)
  super_blocks =
      let w = super_within g.layout in
      let frames = l.sup_frames in
      record {
        pieces = refl;
        within = w;
        aligned = g.layout.sup_ipa;
        whole = omega arith;
        table = refl;
        starts = refl;
        counts = omega arith;
        entry = λ p h.
            block_entry (l.sup_pa_base + p * block) (get_or sup p 0) l.sup_wx_exempt
            (block_output l.sup_pa_base (frames * block) p g.layout.sup_pa w.output h);
      }

  module _ (x : ℕ) (low : x < input_limit) where
    abbrev words : Words
    words = target l base sup

    abbrev addresses : List ℕ
    addresses = addresses_of l

    abbrev Sees : Option Reach → Type 0
    Sees = Seen addresses words x

    abbrev Reads : ℕ → ℕ → ℕ → Type 0
    Reads = Finds addresses words x

    -- what the word of level 1 leads to
    abbrev Leads : Option Reach → ℕ → Type 0
    Leads r d = Reads 2 l.l1_pa d → Sees r

    abbrev In-slot : Part → Type 0
    In-slot p = area_has (area_in p) (l1_slot x) ≡ true

    -- the table with k tables before it, all present
    module _ (k : ℕ) (few : k < table_count) (there : all_present (take (suc k) (tables_of l)) ≡ true) where
      abbrev address : ℕ
      address = (get_or (tables_of l) k (table_if 0 false 0)).pa

      -- its word at the address's index
      word_of : (left : ℕ) → Reads left address (target l base sup (k * entries + index left x))
      word_of left out =
          let e : 0 + (k * entries + index left x) ≡ k * entries + index left x = omega arith in
          fetched (tables_of l) k 0 out (table_if 0 false 0) words (index left x) few there g.distinct ∙ ap words e

      run_of :
          (left : ℕ) (u : Run) →
          ((i : ℕ) → table_of i ≡ 1 + k → target l base sup i ≡ word_at u i) → Reads left address (word_at u (k * entries + index left x))
      run_of left u is out = word_of left out ∙ is (k * entries + index left x) (table_of_lem k (index left x) (omega arith))

      named : Names-table (table_to address) address
      named =
          let n = all_at (λ t. t.present ≡ true → Nameable board_limit t) (tables_of l) k (table_if 0 false 0) few g.layout.tables
          (present_at (tables_of l) k (table_if 0 false 0) few there) in
          table_names address (record { below = omega (arith, n.below); aligned = n.aligned })

      in_blocks :
          (r : Region) (u : Run) →
          (r.window.present ≡ true → Blocks k r u) →
          ((i : ℕ) → table_of i ≡ 1 + k → target l base sup i ≡ word_at u i) →
          In-slot (part r address) → Leads (In x r) (table_to address)
      in_blocks r u blocks is has at1 =
          let h = both r.window.present _ has in
          let b = blocks h.0 in
          block_window addresses words x board_limit r h.0 b.within b.pieces b.aligned b.whole low (sym (eqb-true _ _ h.1))
          (table_to address) address at1 named k u b.table b.starts b.counts (run_of 1 u is) b.entry

      in_device :
          (w : Window) →
          w.pa ≡ w.ipa →
          (w.present ≡ true → Within board_limit w) →
          (w.present ≡ true → Aligned w.ipa) →
          Aligned w.span →
          ((i : ℕ) → table_of i ≡ 1 + k → target l base sup i ≡ word_at (device_run (1 + k) w) i) →
          In-slot (part (device_region w) address) → Leads (In x (device_region w)) (table_to address)
      in_device w itself within aligned whole is =
          in_blocks (device_region w) (device_run (1 + k) w) (λ there. device_blocks k w itself (within there) (aligned there) whole) is

    table_1 : Reads 2 l.l1_pa (l1_at l (l1_slot x))
    table_1 out =
        word_of 0 (omega arith) refl 2 out
        ∙ at_1 l base sup (0 * entries + index 2 x) (omega arith)
        ∙ ap (l1_at l) (index_of_lem 0 (index 2 x) (omega arith))

    table_3 : Reads 1 l.l2_data_pa (data_at l (l2_slot x))
    table_3 out =
        word_of 2 (omega arith) refl 1 out
        ∙ at_3 l base sup (2 * entries + index 1 x) (omega arith)
        ∙ ap (data_at l) (index_of_lem 2 (index 1 x) (omega arith))

    table_4 : Reads 0 l.l3_data_pa (page_at l.data_pa_base base (index 0 x))
    table_4 out =
        let first : index 0 x - 0 ≡ index 0 x = omega arith in
        run_of 3 (omega arith) refl 0 (page_run l base) (run_4 l base sup) out
        ∙ run_inside (index 0 x) (omega arith) 3 (page_run l base) refl (omega arith) (omega arith)
        ∙ ap (page_at l.data_pa_base base) first

    in_data : In-slot (part (data_region l base) l.l2_data_pa) → Leads (In x (data_region l base)) (table_to l.l2_data_pa)
    in_data has at1 =
        let w = data_within g.layout in
        let e = table_to l.l3_data_pa in
        page_window addresses words x board_limit (data_region l base) refl w refl g.layout.data_ipa refl low (sym (eqb-true _ _ has))
        (table_to l.l2_data_pa) l.l2_data_pa e l.l3_data_pa at1 (named 2 (omega arith) refl)
        (λ ne out. table_3 out ∙ ap (λ b. pick b e 0) (ne_eqb _ _ ne))
        (λ q out. table_3 out ∙ ap (λ b. pick b e 0) (eq-eqb _ _ q))
        (named 3 (omega arith) refl) (page_at l.data_pa_base base) table_4
        (λ p h. page_entry (l.data_pa_base + p * page) (get_or base p 0)
        (page_output l.data_pa_base p g.layout.data_pa w.output h))

    -- no two have the slot
    alone : (p q : Part) → (p.region.window.present ≡ true → q.region.window.present ≡ true
        → Apart p.region.window q.region.window) → In-slot p → area_has (area_in q) (l1_slot x) ≡ false
    alone p q apart h = go (area_has (area_in q) (l1_slot x)) refl
      where
        go : (b : Bool) → area_has (area_in q) (l1_slot x) ≡ b → b ≡ false
        go false e = refl
        go true e =
            let s = both p.region.window.present _ h in
            let t = both q.region.window.present _ e in
            absurd ((apart s.0 t.0).slots (eqb-true _ _ s.1 ∙ sym (eqb-true _ _ t.1)))

    seen : Sees (granted l base sup x)
    seen =
        let devices = devices_within g.layout in
        seen_in x (l1_slot x) Leads parts 0
        (pairs_map (λ p. Unit) _ _ (λ p q a b. alone p q) parts (all_always _ (λ p. tt) parts) g.layout.apart)
        (all_map _ _ (λ p within. not_here board_limit p.region.window x within) parts g.layout.windows) (
          in_blocks 1 (omega arith) refl (image_region l) (image_run l) image_blocks (run_2 l base sup),
          (
            in_data,
            (
              in_blocks 4 (omega arith) refl (super_region l sup) (super_run l sup) (λ e. super_blocks) (run_5 l base sup),
              (
                in_device 5 (omega arith) refl (device_window l) refl devices.0 g.layout.devices.0 g.layout.lengths.0
                    (run_6 l base sup),
                tt,
              ),
            ),
          ),
        )
        blank1
        table_1

  -- past the limit no window has the address
  past : (x : ℕ) → input_limit ≤ x → granted l base sup x ≡ None
  past x h =
      granted_none (regions_of l base sup) x
      (all_map _ (λ r. contains r.window x ≡ false) (λ r within. past_limit board_limit r.window x within h) (regions_of l base sup)
      g.layout.windows)

pub reaches :
    (l : Layout) (base sup : List ℕ) (words : Words) →
    Guarded board_limit base sup l →
    (x : ℕ) → PathAgrees (addresses_of l) words (target l base sup) x → Reaches l base sup words x
unfolding walk_of translation
reaches l base sup words g x path = go (ltb x input_limit) refl
  where
    go : (b : Bool) → ltb x input_limit ≡ b → Reaches l base sup words x
    go true t =
        let low = ltb-true _ _ t in
        let s = seen_along (addresses_of l) words (target l base sup) x _ (path low) (seen l base sup g x low) in
        record {
          walks = walk_seen (addresses_of l) words x low _ s;
          translates = λ m a. manual_seen (addresses_of l) words x low m a _ s;
        }
    go false t =
        let p = past l base sup g x (ltb-false _ _ t) in record { walks = rw (t, p); translates = λ m a. rw (t, p) }

pub demand_2 : Demand2
demand_2 l base sup words e = reaches l base sup words (guarded_facts board_limit base sup l e)

pub reaches_whole :
    (l : Layout) (base sup : List ℕ) (words : Words) →
    Guarded board_limit base sup l →
    ((i : ℕ) → i < arena_length → words i ≡ target l base sup i) → (x : ℕ) → Reaches l base sup words x
reaches_whole l base sup words g all x =
    reaches l base sup words g x (λ low. whole_path (addresses_of l) words (target l base sup) x all l.l1_pa)

pub demand_2_whole : Demand2Whole
demand_2_whole l base sup words e = reaches_whole l base sup words (guarded_facts board_limit base sup l e)

pub demand_2_encoded : Demand2Encoded
demand_2_encoded l base sup new e =
    let g = (arena_guarded_facts board_limit (replicate arena_length 0) base sup l (sym e.answer)).1 in
    let long = length-replicate {A = ℕ} arena_length 0 in
    let over = from_zeros board_limit l base sup new e in
    reaches_whole l base sup (words_of new) g (λ i h. over.word i (omega (arith, h, long)))
