-- A cell that is no record is no bucket.
use Rattle.cell_types.proofs.Passed.{handed}
use Rattle.hash_tree.proofs.CellReads.{unread_bucket}
use Rattle.hash_tree.proofs.node_cells.bucket_here.Goals as goal

pub returns-in_err-found : goal.returns-in_err-found
returns-in_err-found g c =
    rw (handed c.from_residual.result c.in_err-found.field-0.0 c.from_residual.ensures.1)
    (unread_bucket c.args.at _ _ c.in_err-found.field-0.0 c.in_err-found.ensures)
