-- The postings before this one have their trails.
use Rattle.kept_documents.specs.Postings.{RowsSoFar}
use Rattle.kept_documents.proofs.rows.are_trailed.Given as goal

abbrev pub invariant-loop-row : goal.invariant-loop-row
invariant-loop-row g l =
    RowsSoFar l.geometry l.rows l.row-index (g.V.View.seen l.fn.view) (g.V.View.seen l.view)
