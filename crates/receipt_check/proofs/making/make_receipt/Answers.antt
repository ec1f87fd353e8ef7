-- The look-up, and what was slot_receipt.
use Rattle.std.proofs.Common.{arith}
use Rattle.receipt_check.proofs.SlotReceipts.{few_listed}
use Rattle.receipt_check.proofs.Made.{limited, named, unlooked, unmade, unread}
use Rattle.receipt_check.proofs.making.make_receipt.Goals as goal

-- nothing was found
pub returns-in-Err : goal.returns-in-Err
returns-in-Err g c = unlooked c.args.id.now _ _ c.in-Err.refusal c.in-Err.ensures

-- no more cells are listed than the device has
pub within_limit-requires : goal.within_limit-requires
within_limit-requires g c =
    let given = rw c.in-Ok-Some.field-0-is at c.in-Ok-Some.ensures in
    let new = g.D.Device.state c.receipt_of_slot.new.device in
    omega (
      arith,
      few_listed new.cells c.in-Ok-Some.receipt.cells given.ends.listed,
      (g.met.D.Device.proper c.receipt_of_slot.new.device).cells,
    )

-- a receipt, or one that is too long
pub returns-in-Ok-Some : goal.returns-in-Ok-Some
returns-in-Ok-Some g c =
    let given = rw c.in-Ok-Some.field-0-is at c.in-Ok-Some.ensures in
    limited c.args.id.now c.in-Ok.slot _ _ _ c.in-Ok.ensures given.viewed c.in-Ok-Some.receipt given.ends
    c.requires c.within_limit.result c.within_limit.ensures

-- the document is not kept
pub returns-in-Ok-None : goal.returns-in-Ok-None
returns-in-Ok-None g c =
    let given = rw c.in-Ok-None.field-0-is at c.in-Ok-None.ensures in
    named c.args.id.now c.in-Ok.slot _ _ _ c.in-Ok.ensures given.viewed given.ends c.name_unkept.result
    c.name_unkept.ensures

-- memory lacked
pub returns-in-Err-NoMemory : goal.returns-in-Err-NoMemory
returns-in-Err-NoMemory g c =
    rw c.from.ensures (unmade c.args.id.now c.in-Ok.slot _ _ _ c.in-Ok.ensures c.receipt_of_slot.ensures.viewed)

-- a read failed
pub returns-in-Err-ReadFault : goal.returns-in-Err-ReadFault
returns-in-Err-ReadFault g c =
    let given = rw c.in-Err-ReadFault.field-0-is at c.in-Err-ReadFault.ensures in
    unread c.args.id.now c.in-Ok.slot _ _ _ c.in-Ok.ensures given.viewed given.ends
