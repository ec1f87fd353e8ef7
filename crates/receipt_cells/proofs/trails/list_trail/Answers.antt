-- A trail from the first block alone.
use Rattle.receipt_cells.proofs.TrailEnds.{from_head}
use Rattle.receipt_cells.proofs.trails.list_trail.Goals as goal

pub returns : goal.returns
returns g c =
    from_head c.args.pool c.args.head c.args.wanted _ _ _ _ c.list_block.result c.list_block.ensures
