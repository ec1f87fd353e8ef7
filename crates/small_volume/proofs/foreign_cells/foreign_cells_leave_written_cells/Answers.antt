-- The law, for all images.
use Rattle.small_volume.proofs.Values.{foreign_extends}
use Rattle.small_volume.proofs.foreign_cells.foreign_cells_leave_written_cells.Goals as goal

pub returns : goal.returns
returns c = foreign_extends
