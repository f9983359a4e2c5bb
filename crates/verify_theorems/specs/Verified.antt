-- What verification accepts: the words that encoding leaves, and words that its decoders read alike.
use Rattle.std.specs.Prelude.{None}
use Rattle.std.specs.Prelude.{ℕ, ◌+◌, ◌<◌, List, ◌≡◌, length, get_or, set}
use Rattle.arena.specs.Encoded.{target}
use Rattle.decode.specs.Decoded.{decoded_table, decoded_device}
use Rattle.layout.specs.Layout.{layout_of}
use Rattle.layout.specs.Size.{entries, board_limit, arena_length, first_word}
use Rattle.layout.specs.declared.Layout.{Layout}
use Rattle.refusal.specs.Table.{accepted, first}
use Rattle.rows.specs.Examples.{scene_s, base_s, sup_s}
use Rattle.rows.specs.Rows.{guard_rows}
use Rattle.verify_rows.specs.Verifying.{word, verify_rows}
use Rattle.verify_rows.specs.Word.{read_page, read_block}

-- rows 2 to 14 let layout and maps by
abbrev pub Guarding : List ℕ → List ℕ → Layout → Type 0
Guarding base sup l = first (guard_rows board_limit base sup l) ≡ accepted

-- every word is what encoding into zeros leaves there
pub record Encoded (arena base sup : List ℕ) (l : Layout) : Type 0 where
  pub long : length arena ≡ arena_length
  pub words : (i : ℕ) → i < arena_length → get_or arena i 0 ≡ target l base sup i

-- what it leaves at index j of table t
abbrev pub encoded_word : Layout → List ℕ → List ℕ → ℕ → ℕ → ℕ
encoded_word l base sup t j = target l base sup (first_word t + j)

-- a word that names a table, or the image's block, is read as what encoding leaves there is, and is 0 where that is 0
abbrev pub Kept : {A : Type 0} → (ℕ → A) → ℕ → ℕ → Type 0
Kept read d w = (read d ≡ read w) × (w ≡ 0 → d ≡ 0)

-- every word is read as what encoding leaves there is; from table 4 on it need not be 0 where that is
pub record ReadAlike (arena base sup : List ℕ) (l : Layout) : Type 0 where
  pub long : length arena ≡ arena_length
  pub window_words : (j : ℕ) → j < entries → Kept decoded_table (word arena 1 j) (encoded_word l base sup 1 j)
  pub image_block : (j : ℕ) → j < entries → Kept read_block (word arena 2 j) (encoded_word l base sup 2 j)
  pub data_table : (j : ℕ) → j < entries → Kept decoded_table (word arena 3 j) (encoded_word l base sup 3 j)
  pub pages : (j : ℕ) → j < entries → read_page (word arena 4 j) ≡ read_page (encoded_word l base sup 4 j)
  pub supers : (j : ℕ) → j < entries → read_block (word arena 5 j) ≡ read_block (encoded_word l base sup 5 j)
  pub devices : (j : ℕ) → j < entries → decoded_device (word arena 6 j) ≡ decoded_device (encoded_word l base sup 6 j)

abbrev pub Verifies : List ℕ → List ℕ → List ℕ → Layout → Type 0
Verifies arena base sup l = first (verify_rows arena base sup l) ≡ accepted

-- what verification's yes says, of a layout and maps that encoding takes: that, and no more
abbrev pub AlikeVerifies : Type 0
AlikeVerifies =
    (arena base sup : List ℕ) (l : Layout) → Guarding base sup l → ReadAlike arena base sup l → Verifies arena base sup l

abbrev pub VerifiedAlike : Type 0
VerifiedAlike =
    (arena base sup : List ℕ) (l : Layout) → Guarding base sup l → Verifies arena base sup l → ReadAlike arena base sup l

abbrev pub EncodedVerifies : Type 0
EncodedVerifies =
    (arena base sup : List ℕ) (l : Layout) → Guarding base sup l → Encoded arena base sup l → Verifies arena base sup l

-- another word at an index of a table
abbrev pub stored_at : ℕ → ℕ → ℕ → List ℕ → List ℕ
stored_at t j d arena = set arena (first_word t + j) d

-- 'It accepts a nonzero word that its decoder reads as nothing .. It ignores device access bits': an encoded arena with one other word,
-- at index j of table 5 or 6
pub record LetsBy (arena base sup : List ℕ) (l : Layout) (j d : ℕ) : Type 0 where
  pub empty_super : encoded_word l base sup 5 j ≡ 0 → read_block d ≡ None → Verifies (stored_at 5 j d arena) base sup l
  pub empty_device : encoded_word l base sup 6 j ≡ 0 → decoded_device d ≡ None → Verifies (stored_at 6 j d arena) base sup l
  pub device_access : decoded_device d ≡ decoded_device (encoded_word l base sup 6 j) → Verifies (stored_at 6 j d arena) base sup l

abbrev pub LettingBy : Type 0
LettingBy =
    (arena base sup : List ℕ) (l : Layout) (j d : ℕ) →
    Guarding base sup l → Encoded arena base sup l → j < entries → LetsBy arena base sup l j d

-- such words in scene S: its page table named from super slot 0, its data as a Normal block in device slot 49, and its device
-- with access 00
pub record InSceneS (arena : List ℕ) : Type 0 where
  pub word_of_table : Verifies (stored_at 5 0 0x0000_0000_4000_3003 arena) base_s sup_s (layout_of scene_s)
  pub normal_block : Verifies (stored_at 6 0x49 0x0000_0000_5000_07FD arena) base_s sup_s (layout_of scene_s)
  pub no_access : Verifies (stored_at 6 0x48 0x0040_0000_0900_0401 arena) base_s sup_s (layout_of scene_s)

abbrev pub VerificationS : Type 0
VerificationS = (arena : List ℕ) → Encoded arena base_s sup_s (layout_of scene_s) → InSceneS arena
