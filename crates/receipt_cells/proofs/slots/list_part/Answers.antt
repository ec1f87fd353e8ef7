-- The slot's log, and its document.
use Rattle.std.proofs.Common.{arith}
use Rattle.receipt_cells.proofs.SlotListing.{log_fits, slot_listed}
use Rattle.receipt_cells.proofs.slots.list_part.Goals as goal

-- the log lies before the pool
pub overflow_add-log : goal.overflow_add-log
overflow_add-log g c =
    let inside = log_fits c.args.geometry.now c.args.part.now.slot c.log_cells.result c.log_cells.ensures.exists
    c.log_cells.ensures.count c.requires.part.slot in
    omega (arith, c.reserve_at-log.ensures.at, inside.0, inside.1)

pub list_cells-requires-clause-inside : goal.list_cells-requires-clause-inside
list_cells-requires-clause-inside g c =
    let inside = log_fits c.args.geometry.now c.args.part.now.slot c.log_cells.result c.log_cells.ensures.exists
    c.log_cells.ensures.count c.requires.part.slot in
    omega (arith, c.reserve_at-log.ensures.at, inside.0, c.requires.size)

-- log and document were listed
pub returns : goal.returns
returns g c =
    slot_listed c.args.geometry.now c.reserve_at-log.result c.log_cells.result c.document_cells.result
    _ _ _ _ _ _ c.args.part.now c.list_cells-2.result c.reserve_at-log.ensures.at c.log_cells.ensures.count
    c.document_cells.ensures c.requires.part c.in_default.ensures c.list_cells-2.ensures
