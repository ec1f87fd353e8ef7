-- The written cells before this one are listed.
use Rattle.receipt_cells.specs.Written.{RowSoFar}
use Rattle.receipt_cells.proofs.cells.list_cells.Given as goal

abbrev pub invariant-loop-at : goal.invariant-loop-at
invariant-loop-at g l =
    RowSoFar l.fn.from l.at (g.V.View.seen l.fn.view) (g.V.View.seen l.view) l.fn.listed l.listed
