-- A law of receipts.
use Rattle.cell_types.specs.declared.refusal.NoMemory as lacks
use Rattle.std.specs.Prelude.{◌≡◌, ◌⊎◌, List, ℕ, Result, Ok, Err, IsTrue}
use Rattle.cell_types.specs.Image.{Image, Extends}
use Rattle.worm_device.specs.Counts.{Rose}
use Rattle.worm_device.specs.State.{DeviceState}
use Rattle.receipt_text.specs.Listed.{listed_image}
use Rattle.receipt_text.specs.declared.receipt.Receipt.{Receipt}
use Rattle.receipt_check.specs.Checks.{ChecksReceipt, ShowsDocument}
use Rattle.receipt_check.specs.declared.checking.CheckRefusal.{CheckRefusal}
use Rattle.receipt_check.specs.declared.checking.CheckRefusal.TheVariants.{DeviceFault, NoMemory}
use Rattle.receipt_check.specs.declared.checking.Checked.{Checked}

-- A receipt whose cells show a document, and stand in some image, is accepted on each device whose image extends that
-- one, but for want of memory and reads that fail.
abbrev pub ReceiptsHoldOn : Type 0
ReceiptsHoldOn =
    (r : Receipt) (body : List ℕ) (image : Image) (old new : DeviceState) (result : Result Checked CheckRefusal)
    → ShowsDocument old.cells r body → Extends (listed_image r.cells) image → IsTrue old.tells → Extends image old.image
    → ChecksReceipt r old new result
    → ((done : Checked) × (result ≡ Ok done))
    ⊎ (((lack : lacks.NoMemory) × (result ≡ Err (NoMemory lack))) ⊎ ((result ≡ Err DeviceFault) × Rose old.faults new.faults))
