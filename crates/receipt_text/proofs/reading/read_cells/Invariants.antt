-- So many cells were read.
use Rattle.receipt_text.specs.Reading.{CellsReadSoFar}
use Rattle.receipt_text.proofs.reading.read_cells.Given as goal

abbrev pub invariant-loop-count : goal.invariant-loop-count
invariant-loop-count l = CellsReadSoFar l.size l.fn.text l.count l.next l.cells l.rest
