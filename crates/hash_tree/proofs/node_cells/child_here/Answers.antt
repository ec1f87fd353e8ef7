-- A cell that is no record is no child cell.
use Rattle.cell_types.proofs.Passed.{handed}
use Rattle.hash_tree.proofs.CellReads.{unread_child}
use Rattle.hash_tree.proofs.node_cells.child_here.Goals as goal

pub returns-in_err-found : goal.returns-in_err-found
returns-in_err-found g c =
    rw (handed c.from_residual.result c.in_err-found.field-0.0 c.from_residual.ensures.1)
    (unread_child c.args.at c.args.pool c.args.edge _ _ c.in_err-found.field-0.0 c.in_err-found.ensures)
