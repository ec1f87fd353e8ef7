-- A cell that is no record is no jump cell.
use Rattle.cell_types.proofs.Passed.{handed}
use Rattle.jump_block.proofs.EntryReads.{unread_pointer}
use Rattle.jump_block.proofs.pointers.pointer.Goals as goal

pub returns-in_err-found : goal.returns-in_err-found
returns-in_err-found g c =
    rw (handed c.from_residual.result c.in_err-found.field-0.0 c.from_residual.ensures.1)
    (unread_pointer _ c.pointer_cell-at.result _ _ c.in_err-found.field-0.0 c.pointer_cell-at.ensures
    c.in_err-found.ensures)
