-- The law, for all images.
use Rattle.small_volume.proofs.Values.{foreign_changes}
use Rattle.small_volume.proofs.foreign_cells.a_foreign_cell_changes_one_blank_cell.Goals as goal

pub returns : goal.returns
returns c = foreign_changes
