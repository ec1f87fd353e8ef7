-- A law of receipts that were made.
use Rattle.cell_types.specs.declared.refusal.NoMemory as lacks
use Rattle.std.specs.Prelude.{◌≡◌, ◌⊎◌, List, ℕ, Result, Ok, Err, IsTrue}
use Rattle.cell_types.specs.Image.{Extends}
use Rattle.worm_device.specs.Counts.{Rose}
use Rattle.worm_device.specs.State.{DeviceState}
use Rattle.receipt_check.specs.Checks.{ChecksReceipt}
use Rattle.receipt_check.specs.declared.checking.CheckRefusal.{CheckRefusal}
use Rattle.receipt_check.specs.declared.checking.CheckRefusal.TheVariants.{DeviceFault, NoMemory}
use Rattle.receipt_check.specs.declared.checking.Checked.{Checked}
use Rattle.receipt_text.specs.declared.receipt.Receipt.{Receipt}
use Rattle.receipt_check.specs.Making.{MakesReceipt}

-- A receipt that was made, between old and new, is accepted on each device of this size whose image extends the one when
-- it was made, but for want of memory and reads that fail.
abbrev pub ReceiptsAreAccepted : Type 0
ReceiptsAreAccepted =
    (id : List ℕ) (old new before after : DeviceState) (r : Receipt) (result : Result Checked CheckRefusal)
    → MakesReceipt id old new (Ok r) → IsTrue old.tells → IsTrue before.tells → before.cells ≡ new.cells
    → Extends new.image before.image → ChecksReceipt r before after result
    → ((done : Checked) × (result ≡ Ok done))
    ⊎ (((lack : lacks.NoMemory) × (result ≡ Err (NoMemory lack))) ⊎ ((result ≡ Err DeviceFault) × Rose before.faults after.faults))
