-- Examples of request M-100's page: the runs of scene S, runs that cross into the next window, and rows.
use Rattle.std.specs.Prelude.{ℕ, zero, suc, Bool, true, false, List, [], ◌∷◌, ◌++◌, ◌≡◌, length, replicate}
use Rattle.annex.specs.Annex.{annex_runs, annex_page, annex_outcome}
use Rattle.annex_theorems.specs.LongestPage.{longest_page}
use Rattle.fields.specs.Ascii.{ascii}
use Rattle.layout.specs.Layout.{layout_of}
use Rattle.perm.specs.declared.Perm.{Perm}
use Rattle.perm.specs.declared.Perm.TheVariants.{Ro, Rw}
use Rattle.refusal.specs.Table.{row, Outcome, accepted, refused}
use Rattle.rows.specs.Examples.{scene_s, base_s, sup_s, line}
use Rattle.rows.specs.WithinRows.{imaged, image_s}
use Rattle.runs.specs.declared.Run.{Run}

-- X and - of a line
abbrev pub executable : Bool
executable = false

abbrev pub never : Bool
never = true

-- first and last address, output, access
abbrev pub reaches : ℕ → ℕ → ℕ → Perm → Bool → Run
reaches first last pa perm xn = record { first = first; last = last; pa = pa; perm = perm; xn = xn }

abbrev pub runs_of : List ℕ → List ℕ → List ℕ → List Run
runs_of x base sup = annex_runs (layout_of x) base sup

abbrev pub page_of_s : List ℕ
page_of_s = annex_page (layout_of scene_s) base_s sup_s

-- the device of S
abbrev pub device_run : Run
device_run = reaches 0x900_0000 0x91F_FFFF 0x900_0000 Rw never

-- the last page of data stands before the first super
abbrev pub data_before_super : List ℕ
data_before_super = line 8 0x7FE0_0000 (line 0xB 0x8000_0000 (line 0xC 0x5020_0000 (line 0x10 1 scene_s)))

abbrev pub last_page : List ℕ
last_page = replicate 511 0 ++ (2 ∷ [])

-- an image stands before the first super, whose output is its own address
abbrev pub image_before_super : List ℕ
image_before_super = imaged 0x7FE0_0000 (line 8 0xC000_0000 (line 0xB 0x8000_0000 (line 0xC 0x8000_0000 (line 0x10 1 scene_s))))

-- no image, no device, and nothing mapped
abbrev pub no_device : List ℕ
no_device = line 0xE 0 scene_s

-- an image, and maps whose neighbours differ
abbrev pub full : List ℕ
full = line 0x10 512 image_s

abbrev pub alternating : ℕ → List ℕ
alternating zero = []
alternating (suc n) = 1 ∷ 2 ∷ alternating n

abbrev pub written : ℕ → List ℕ → List ℕ → List ℕ → Outcome
written bytes x base sup = annex_outcome (replicate bytes 0) base sup (layout_of x)

pub record AnnexExamples : Type 0 where
  -- the runs of S, in address order
  pub S :
      runs_of scene_s base_s sup_s
      ≡ device_run
      ∷ reaches 0x8000_1000 0x8000_1FFF 0x5000_1000 Rw never
      ∷ reaches 0xC040_0000 0xC05F_FFFF 0x6040_0000 Ro executable
      ∷ []
  -- and its page
  pub s_page :
      page_of_s
      ≡ ascii "0009000000 00091FFFFF 000009000000 RW -\n"
      ++ ascii "0080001000 0080001FFF 000050001000 RW -\n"
      ++ ascii "00C0400000 00C05FFFFF 000060400000 RO X\n"
      ++ ascii "=======================================\n"
  -- page 511 of data, Rw, and super 0, Rw, with continuous output are one run
  pub data_super :
      runs_of data_before_super last_page (2 ∷ [])
      ≡ device_run ∷ reaches 0x7FFF_F000 0x801F_FFFF 0x501F_F000 Rw never ∷ []
  -- where the output is not continuous, two
  pub output_breaks :
      runs_of (line 0xC 0x6000_0000 data_before_super) last_page (2 ∷ [])
      ≡ device_run
      ∷ reaches 0x7FFF_F000 0x7FFF_FFFF 0x501F_F000 Rw never
      ∷ reaches 0x8000_0000 0x801F_FFFF 0x6000_0000 Rw never
      ∷ []
  -- where the exemption makes the super executable, two, though both are RW
  pub execute_breaks :
      runs_of (line 0xF 1 data_before_super) last_page (2 ∷ [])
      ≡ device_run
      ∷ reaches 0x7FFF_F000 0x7FFF_FFFF 0x501F_F000 Rw never
      ∷ reaches 0x8000_0000 0x801F_FFFF 0x5020_0000 Rw executable
      ∷ []
  -- an image and an Rx super with continuous output are one run
  pub image_super :
      runs_of image_before_super [] (3 ∷ [])
      ≡ device_run ∷ reaches 0x7FE0_0000 0x801F_FFFF 0x7FE0_0000 Ro executable ∷ []
  -- where nothing is reached, the page is its last line
  pub nothing : runs_of no_device [] [] ≡ []
  pub last_line : length (annex_page (layout_of no_device) [] []) ≡ 40
  -- no shorter buffer is enough for every page
  pub longest : length (annex_page (layout_of full) (alternating 256) (alternating 256)) ≡ longest_page
  pub longest_bytes : longest_page ≡ 41080
  -- row 27 where the page is longer than the buffer, after 14
  pub too_short : written 159 scene_s base_s sup_s ≡ refused (row 27 [])
  pub enough : written 160 scene_s base_s sup_s ≡ accepted
  pub order : written 0 scene_s base_s (0 ∷ 0 ∷ 3 ∷ 0 ∷ 1 ∷ []) ≡ refused (row 14 (4 ∷ []))
