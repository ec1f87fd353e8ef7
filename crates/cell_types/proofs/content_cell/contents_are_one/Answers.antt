-- The law, for all cells.
use Rattle.cell_types.proofs.ContentCells.{contents_one}
use Rattle.cell_types.proofs.content_cell.contents_are_one.Goals as goal

pub returns : goal.returns
returns c = λ xs ys cell p q. contents_one xs ys cell p q
