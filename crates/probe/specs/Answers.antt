-- Every function below the layouts by its number.
use Rattle.std.specs.Prelude.{ℕ, List, [], ◌∷◌, get_or}
use Rattle.decode.specs.Decoded.{decoded_page, decoded_block, decoded_table, decoded_device}
use Rattle.fields.specs.Named.{named}
use Rattle.fields.specs.Numbers.{eight, low, nonzero}
use Rattle.granule.specs.Granule.{granule_named}
use Rattle.granule.specs.StartLevel.{level_named}
use Rattle.page_type.specs.PageType.{level_of_kind}
use Rattle.probe_numbers.specs.Frames.{frame_answer}
use Rattle.probe_numbers.specs.Granules.{granule_numbers, start_level_numbers, size_numbers, width_named, width_numbers}
use Rattle.probe_numbers.specs.Levels.{table_level_numbers, type_named, type_numbers}
use Rattle.probe_numbers.specs.Regimes.{regime_answer}
use Rattle.probe_numbers.specs.Registers.{decoded_numbers, part_numbers}
use Rattle.probe_numbers.specs.Words.{perm_named, perm_numbers, memory_numbers, constant_numbers, word_numbers, leaf_numbers, table_numbers}
use Rattle.probe_numbers.specs.Words.{device_numbers}
use Rattle.sizes.specs.Codes.{size_named}
use Rattle.vtcr.specs.Vtcr.{decoded_vtcr}
use Rattle.vttbr.specs.Vttbr.{vttbr_of}

-- the answer of function op at the numbers x: eight numbers for eight; zeros where there is no such function. 17 is
-- VTTBR_EL2 of a base and a VMID
unfoldable pub answer_of : ℕ → List ℕ → List ℕ
answer_of op x =
    let n = get_or x 0 0 in
    named (λ (e : ℕ × List ℕ). e.0)
    ((0, frame_answer x)
    ∷ (1, table_level_numbers (level_of_kind (low n)))
    ∷ (2, type_numbers (type_named (low n)))
    ∷ (3, perm_numbers (perm_named n) (nonzero (get_or x 1 0)))
    ∷ (4, memory_numbers n)
    ∷ (5, constant_numbers)
    ∷ (6, word_numbers)
    ∷ (7, leaf_numbers (decoded_page n))
    ∷ (8, leaf_numbers (decoded_block n))
    ∷ (9, table_numbers (decoded_table n))
    ∷ (10, device_numbers (decoded_device n))
    ∷ (11, granule_numbers (granule_named n))
    ∷ (12, start_level_numbers (level_named n))
    ∷ (13, size_numbers (size_named n))
    ∷ (14, width_numbers (width_named n))
    ∷ (15, regime_answer x)
    ∷ (16, decoded_numbers (decoded_vtcr n))
    ∷ (17, eight (vttbr_of n (get_or x 1 0) ∷ []))
    ∷ (18, part_numbers n)
    ∷ [])
    (λ e. e.1) (eight []) op
