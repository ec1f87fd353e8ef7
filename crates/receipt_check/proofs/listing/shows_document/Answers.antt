-- The listed cells were judged.
use Rattle.receipt_check.proofs.SlotReceipts.{judged, judged_none}
use Rattle.receipt_check.proofs.listing.shows_document.Goals as goal

-- they keep the document
pub returns-in-Ok-Some : goal.returns-in-Ok-Some
returns-in-Ok-Some c =
    judged c.args.receipt.now c.args.cells _ _ c.in-Ok-Some._bytes
    (rw (c.in-Ok-Some.field-0-is, c.bytes.ensures) at c.in-Ok-Some.ensures)

-- they keep none
pub returns-in-Ok-None : goal.returns-in-Ok-None
returns-in-Ok-None c =
    judged_none c.args.receipt.now c.args.cells _ _
    (rw (c.in-Ok-None.field-0-is, c.bytes.ensures) at c.in-Ok-None.ensures)
