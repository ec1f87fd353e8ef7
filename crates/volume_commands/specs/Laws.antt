-- What two commands promise together.
use Rattle.std.specs.Prelude.{◌≡◌, ℕ, List, Some, Ok, IsTrue}
use Rattle.cell_types.specs.Image.{Extends}
use Rattle.worm_device.specs.Counts.{IsStill}
use Rattle.receipt_text.specs.Form.{text_of_receipt}
use Rattle.receipt_text.specs.declared.receipt.Receipt.{Receipt}
use Rattle.volume_commands.specs.Checking.{IsReadyToCheck}
use Rattle.volume_commands.specs.Ports.{Ports, PutsOut}
use Rattle.volume_commands.specs.Receipting.{DoesReceipt}

-- The source holds this text, and no call fails. The device tells, is of the size of an earlier one, and has all that
-- stood there.
pub record IsGivenLater (text : List ℕ) (earlier old new : Ports) : Type 0 where
  pub source : old.source.left ≡ Some text
  pub tells : IsTrue old.device.tells
  pub cells : old.device.cells ≡ earlier.device.cells
  pub image : Extends earlier.device.image old.device.image
  pub no_device_fault : IsStill old.device.faults new.device.faults
  pub no_source_fault : IsStill old.source.faults new.source.faults
  pub no_sink_fault : IsStill old.sink.faults new.sink.faults

-- Where `receipt` is done, over a device that tells, it has put out the text of a receipt for which all is as `check`
-- wants it, whenever that text is given to it later, on this device or on a copy.
abbrev pub ReceiptsAreReady : Type 0
ReceiptsAreReady =
    (id : List ℕ) (old new : Ports) → DoesReceipt id old new (Ok tt) → IsTrue old.device.tells
    → (r : Receipt) × (body : List ℕ) × PutsOut (text_of_receipt r) old new
    × ((before after : Ports) → IsGivenLater (text_of_receipt r) new before after → IsReadyToCheck r body before after)
