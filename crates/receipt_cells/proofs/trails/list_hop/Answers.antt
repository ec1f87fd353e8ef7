-- The front's cells, and then the jump cell.
use Rattle.std.proofs.Common.{arith}
use Rattle.receipt_cells.proofs.Listing.{cells_fail}
use Rattle.receipt_cells.proofs.TrailEnds.{hop_listed}
use Rattle.receipt_cells.proofs.trails.list_hop.Goals as goal

pub returns-in-Err : goal.returns-in-Err
returns-in-Err g c = cells_fail c.in-Err.why (rw c.in-Err.is at c.list_cells.ensures)

pub returns : goal.returns
returns g c =
    hop_listed c.args.block c.args.first.now.level c.args.first.now.digit c.from.result c.pointer_cell.result _ _ _ _ _ _
    c.list_cell.result (omega (arith, c.from.ensures)) c.pointer_cell.ensures
    (rw c.in_default.is at c.list_cells.ensures) c.list_cell.ensures
