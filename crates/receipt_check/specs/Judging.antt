-- Whether listed cells alone keep a document, and which receipt this gives.
use Rattle.std.specs.Prelude.{◌≡◌, ◌<◌, ◌≤◌, ℕ, List, Bool, true, false, length, Option, Some, None, Result, Ok, Err, IsTrue, ⊤}
use Rattle.cell_types.specs.Image.{Extends}
use Rattle.cell_types.specs.declared.refusal.NoMemory.{NoMemory}
use Rattle.cell_types.specs.declared.refusal.Refusal.{Refusal}
use Rattle.cell_types.specs.declared.refusal.Refusal.TheVariants.{ReceiptTooLong}
use Rattle.worm_device.specs.Counts.{Rose}
use Rattle.worm_device.specs.State.{DeviceState}
use Rattle.worm_device.specs.Views.{Viewed, seen_directly}
use Rattle.kept_documents.specs.Kept.{KeepsNone, document_of}
use Rattle.kept_documents.specs.declared.fault.AskFault.{AskFault}
use Rattle.kept_documents.specs.declared.fault.AskFault.TheVariants as asks
use Rattle.receipt_text.specs.Listed.{AreListed, listed_image}
use Rattle.receipt_text.specs.declared.receipt.Receipt.{Receipt}
use Rattle.receipt_text.specs.declared.receipt.TheConstants.{MAX_RECEIPT_CELLS}
use Rattle.receipt_check.specs.Checks.{ShowsDocument}
use Rattle.receipt_check.specs.Needing.{ListsNeeded}

-- yes: they keep a document with some body; no: with none
abbrev pub JudgesReceipt : ℕ → Receipt → Result Bool NoMemory → Type 0
JudgesReceipt cells r (Ok true) = (body : List ℕ) × ShowsDocument cells r body
JudgesReceipt cells r (Ok false) = (body : List ℕ) → ShowsDocument cells r body → ⊥
JudgesReceipt cells r (Err failed) = ⊤

-- The receipt is of this slot and this identifier. Its cells keep a document, and stand; and they are just those that
-- are needed.
pub record IsSlotReceipt (n : ℕ) (id : List ℕ) (old new : DeviceState) (r : Receipt) : Type 0 where
  pub slot : r.slot ≡ n
  pub identifier : r.identifier ≡ id
  pub listed : AreListed new.cells r.cells
  pub body : List ℕ
  pub shows : ShowsDocument new.cells r body
  pub stand : IsTrue old.tells → Extends (listed_image r.cells) new.image
  pub needed : IsTrue old.tells → ListsNeeded new.cells new.image (document_of r.slot r.identifier body) r.cells

-- how making the receipt of a slot may end: none where the slot kept no document with the identifier at entry
abbrev pub ReceiptEnds : ℕ → List ℕ → DeviceState → DeviceState → Result (Option Receipt) AskFault → Type 0
ReceiptEnds n id old new (Ok (Some r)) = IsSlotReceipt n id old new r
ReceiptEnds n id old new (Ok None) = IsTrue old.tells → KeepsNone (seen_directly old 0) n id
ReceiptEnds n id old new (Err asks.ReadFault) = Rose old.faults new.faults
ReceiptEnds n id old new (Err (asks.NoMemory lack)) = ⊤

pub record GivesReceipt (n : ℕ) (id : List ℕ) (old new : DeviceState) (result : Result (Option Receipt) AskFault)
    : Type 0 where
  pub viewed : Viewed (seen_directly old 0) (seen_directly new 0)
  pub ends : ReceiptEnds n id old new result

-- a receipt goes out if it has no more cells than it may have
abbrev pub LimitEnds : Receipt → Result Receipt Refusal → Type 0
LimitEnds r (Ok given) = (given ≡ r) × (length r.cells ≤ MAX_RECEIPT_CELLS)
LimitEnds r (Err (ReceiptTooLong count)) = (length r.cells ≡ count) × (MAX_RECEIPT_CELLS < count)
LimitEnds r (Err refusal) = ⊥
