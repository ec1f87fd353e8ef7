-- The postings before this one are inserted.
use Rattle.worm_device.specs.Overlays.{of_overlay}
use Rattle.ingest_plan.specs.Rows.{RowSoFar}
use Rattle.ingest_plan.proofs.rows.insert_postings.Given as goal

abbrev pub invariant-loop-row : goal.invariant-loop-row
invariant-loop-row g l =
    RowSoFar l.geometry l.rows l.row-index l.fn.pool l.pool (of_overlay g.V.View.seen l.fn.overlay)
    (of_overlay g.V.View.seen l.overlay)
