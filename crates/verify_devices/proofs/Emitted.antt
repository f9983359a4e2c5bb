-- The emitted word of a device has no row: it is read as what is wanted.
use Rattle.std.specs.Prelude.{Some, None}
use Prim.Native.Nat.{ℕ}
use mathlib.Core.Bool.{Bool, true, false}
use mathlib.Core.List.{[]}
use mathlib.Core.Path.{◌≡◌, refl, ap, ◌∙◌}
use Rattle.arena.specs.Word.{device_to}
use Rattle.decode.proofs.Emitted.{emitted_decodes}
use Rattle.decode.specs.Decoded.{decoded_device}
use Rattle.desc.specs.Descriptor.{block_address}
use Rattle.fields.specs.Named.{pick}
use Rattle.layout.specs.declared.Window.{Window}
use Rattle.verify_rows.proofs.Read.{held_block, no_block_row}
use Rattle.verify_rows.specs.Verifying.{slot_address, window_holds, wanted_block}
use Rattle.verify_rows.specs.Word.{block_row}

device_read :
    (inside : Bool) (x : ℕ) →
    decoded_device (pick inside (device_to x) 0) ≡ pick inside (Some (record { pa = block_address x; xn = true })) None
device_read true x = emitted_decodes.device (block_address x) (held_block x)
device_read false x = refl

pub device_none :
    (t d j : ℕ) (w : Window) →
    d ≡ pick (window_holds w (slot_address w j)) (device_to (slot_address w j)) 0 → block_row t j d (wanted_block w j) ≡ []
device_none t d j w q = no_block_row t j d _ (ap decoded_device q ∙ device_read (window_holds w (slot_address w j)) (slot_address w j))
