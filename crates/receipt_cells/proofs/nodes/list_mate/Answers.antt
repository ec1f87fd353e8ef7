-- The slot of the bucket was listed.
use Rattle.receipt_cells.proofs.NodeListing.{mate_listed}
use Rattle.receipt_cells.proofs.nodes.list_mate.Goals as goal

pub returns : goal.returns
returns g c =
    mate_listed c.args.volume.now.geometry c.args.digest.now c.args.bucket.now _ _ c.if-not-has_fingerprint.ensures _ _
    c.list_slot.result c.list_slot.ensures
