-- The cells of the trails of the postings before this one are listed.
use Rattle.receipt_cells.specs.Postings.{RowsSoFar}
use Rattle.receipt_cells.proofs.postings.list_rows.Given as goal

abbrev pub invariant-loop-row : goal.invariant-loop-row
invariant-loop-row g l =
    RowsSoFar l.geometry l.rows l.row-index (g.V.View.seen l.fn.view) (g.V.View.seen l.view) l.fn.listed l.listed
