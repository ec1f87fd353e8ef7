-- Each of the cells is listed, with the value that stands in the image.
use Rattle.receipt_cells.proofs.KeptAlone.{alone, by_cells}
use Rattle.receipt_cells.proofs.laws.lists_keep_alone.Goals as goal

pub returns : goal.returns
returns c = alone by_cells
