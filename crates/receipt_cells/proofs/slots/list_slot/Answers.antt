-- The slot's state, and then its part.
use Rattle.document_store.proofs.Checking.{found_part}
use Rattle.receipt_cells.proofs.SlotListing.{look_unlisted, slot_from, undone_unlisted}
use Rattle.receipt_cells.proofs.slots.list_slot.Goals as goal

-- the slot's cells are no state
pub returns-in-Err : goal.returns-in-Err
returns-in-Err g c =
    let h = c.in-Err.ensures in
    look_unlisted c.args.volume.now.geometry c.args.slot _ _ _ _ h.viewed c.in-Err.fault c.unlisted.result h.ends
    c.unlisted.ensures

-- it is not done
pub returns-in_default : goal.returns-in_default
returns-in_default g c =
    let h = rw c.in_default.is at c.in-Ok.ensures in
    undone_unlisted c.args.volume.now.geometry c.args.slot _ _ _ _ h.viewed h.ends

-- the part that was found
pub list_part-requires-clause-part : goal.list_part-requires-clause-part
list_part-requires-clause-part g c =
    let h = c.in-Ok.ensures in
    found_part c.args.volume.now.geometry c.args.slot _ _ c.in-Some.part h.viewed (rw c.in-Some.is at h.ends)
    c.requires.slot

pub returns : goal.returns
returns g c =
    let h = c.in-Ok.ensures in
    let found = rw c.in-Some.is at h.ends in
    slot_from c.args.volume.now.geometry c.args.slot c.in-Some.part.slot _ _ _ _ _ c.list_part.result h.viewed found.0
    c.list_part.ensures
