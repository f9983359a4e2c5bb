-- What a descent through emitted words sees, and that walk and manual read it alike.
use Rattle.std.specs.Prelude.{Some, Option, None}
use Rattle.reach.specs.declared.Reach.{Reach}
use Prim.Native.Nat.{ℕ, ◌+◌, ◌%◌, ◌<◌}
use mathlib.Core.List.{List}
use mathlib.Core.Path.{◌≡◌, ap, ◌∙◌}
use native.Mathlib.Omega.{arith}
use lib.ListN.{get_or}
use borrow.Author.Tests.{lt-ltb}
use Rattle.arena.specs.Word.{table_to}
use Rattle.decode.proofs.Emitted.{emitted_decodes}
use Rattle.decode.specs.Decoded.{decoded_table}
use Rattle.decode.specs.Emitted.{Output}
use Rattle.demand_2.proofs.Leaves.{PageLeaf, BlockLeaf}
use Rattle.desc.specs.Descriptor.{descriptor_type, block_type, table_type, page_type, page_address}
use Rattle.desc.specs.Words.{table_word}
use Rattle.desc.specs.declared.AccessXn.{AccessXn}
use Rattle.descent.specs.Descent.{Words, index, fetch, ends_at, leads, descend}
use Rattle.descent.specs.declared.Stop.TheVariants.{Leaf}
use Rattle.descent.specs.declared.Stop.{Stop}
use Rattle.fields.specs.Bits.{bits}
use Rattle.layout.specs.Size.{page, block, input_limit}
use Rattle.manual.specs.Translation.{Machine, Access, level1, level2, level3, translation, allowed}
use Rattle.walk.specs.Walk.{leaf_reach, reading, walk_of}
use Rattle.window_reach.specs.Granted.{reach_at}

-- an emitted table word names its table
pub record Names-table (d t : ℕ) : Type 0 where
  pub type : descriptor_type d ≡ table_type
  pub address : page_address d ≡ t
  pub decodes : decoded_table d ≡ Some t

pub table_names : (t : ℕ) → Output 12 t → Names-table (table_to t) t
table_names t o =
    let e : page_address t ≡ t = omega arith in
    record {
      type = omega arith;
      address = omega arith;
      decodes = ap (λ (n : ℕ). decoded_table (n + table_word)) e ∙ emitted_decodes.table t o;
    }

-- where a leaf stops the descent
stop_block : (d : ℕ) → descriptor_type d ≡ block_type → (down : ℕ → Stop) → leads (decoded_table d) down (ends_at 1 d) ≡ Leaf 2 d
stop_block d e down = rw e

stop_page : (d : ℕ) → descriptor_type d ≡ page_type → ends_at 0 d ≡ Leaf 3 d
stop_page d e = rw e

within_block : (x : ℕ) → bits 20 0 x ≡ x % block
within_block x = omega arith

within_page : (x : ℕ) → bits 11 0 x ≡ x % page
within_page x = omega arith

module _ (tables : List ℕ) (words : Words) (x : ℕ) where
  -- a read with so many levels below finds this word, whatever stands outside
  abbrev pub Finds : ℕ → ℕ → ℕ → Type 0
  Finds left named d = (outside : ℕ) → fetch outside tables words named (index left x) ≡ d

  abbrev root : ℕ
  root = get_or tables 0 0

  pub data Seen : Option Reach → Type 0 where
    blank1 : Finds 2 root 0 → Seen None
    blank2 : (d t : ℕ) → Finds 2 root d → Names-table d t → Finds 1 t 0 → Seen None
    blank3 :
        (d t e u : ℕ) → Finds 2 root d → Names-table d t → Finds 1 t e → Names-table e u → Finds 0 u 0 → Seen None
    block2 :
        (d t e pa : ℕ) (a : AccessXn) →
        Finds 2 root d → Names-table d t → Finds 1 t e → BlockLeaf e pa a → Seen (reach_at (pa + x % block) a)
    page3 :
        (d t e u f pa : ℕ) (a : AccessXn) →
        Finds 2 root d →
        Names-table d t → Finds 1 t e → Names-table e u → Finds 0 u f → PageLeaf f pa a → Seen (reach_at (pa + x % page) a)

  module _ (low : x < input_limit) where
    pub walk_seen : (r : Option Reach) → Seen r → walk_of tables (λ left. words) x ≡ r
    unfolding walk_of descend
    walk_seen r (blank1 f) = rw (lt-ltb _ _ low, f 0)
    walk_seen r (blank2 d t f n g) = rw (lt-ltb _ _ low, f 0, n.decodes, g 0)
    walk_seen r (blank3 d t e u f n g o h) = rw (lt-ltb _ _ low, f 0, n.decodes, g 0, o.decodes, h 0)
    walk_seen r (block2 d t e pa a f n g b) =
        let stop : descend tables (λ left. words) 2 root x ≡ Leaf 2 e = rw (f 0, n.decodes, g 0) (stop_block e b.type _) in
        rw (lt-ltb _ _ low) (ap (reading x) stop ∙ ap (leaf_reach (x % block)) b.decodes)
    walk_seen r (page3 d t e u w pa a f n g o h p) =
        let stop : descend tables (λ left. words) 2 root x ≡ Leaf 3 w =
        rw (f 0, n.decodes, g 0, o.decodes, h 0) (stop_page w p.type) in
        rw (lt-ltb _ _ low) (ap (reading x) stop ∙ ap (leaf_reach (x % page)) p.decodes)

  module _ (low : x < input_limit) (m : Machine) (c : Access) where
    out : ℕ → ℕ → ℕ
    out left named = m.elsewhere named (index left x)

    pub manual_seen : (r : Option Reach) → Seen r → translation m tables (λ left. words) c x ≡ allowed c r
    unfolding translation level1 level2 level3 out
    manual_seen r (blank1 f) = rw (lt-ltb _ _ low, f (out 2 root))
    manual_seen r (blank2 d t f n g) = rw (lt-ltb _ _ low, f (out 2 root), n.type, n.address, g (out 1 t))
    manual_seen r (blank3 d t e u f n g o h) =
        rw (lt-ltb _ _ low, f (out 2 root), n.type, n.address, g (out 1 t), o.type, o.address, h (out 0 u))
    manual_seen r (block2 d t e pa a f n g b) =
        rw (lt-ltb _ _ low, f (out 2 root), n.type, n.address, g (out 1 t), b.type, b.address, within_block x)
        (b.allows m.xnx c (pa + x % block))
    manual_seen r (page3 d t e u w pa a f n g o h p) =
        rw (
          lt-ltb _ _ low,
          f (out 2 root),
          n.type,
          n.address,
          g (out 1 t),
          o.type,
          o.address,
          h (out 0 u),
          p.type,
          p.address,
          within_page x,
        )
        (p.allows m.xnx c (pa + x % page))
