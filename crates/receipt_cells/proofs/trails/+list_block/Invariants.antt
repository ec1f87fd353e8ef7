-- The level falls at every hop.
use Rattle.receipt_cells.proofs.trails.+list_block.Given as goal

abbrev pub decreases-list_block : goal.decreases-list_block
decreases-list_block g l = l.reached.level
