-- The cells before this turn's are copied.
use Rattle.host_files.specs.Cells.{AreCellsIn}
use Rattle.host_files.proofs.page.copy_cells.Given as goal

abbrev pub invariant-loop-place : goal.invariant-loop-place
invariant-loop-place l = AreCellsIn l.place l.first l.into l.bytes
