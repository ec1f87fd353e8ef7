-- Part by part.
use Rattle.receipt_cells.proofs.KeptAlone.{by_cells}
use Rattle.receipt_cells.proofs.laws.kept_by_cells.Goals as goal

pub returns : goal.returns
returns c = by_cells
