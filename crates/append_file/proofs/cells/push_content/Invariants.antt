-- The cells so far are those of the front that has gone.
use Rattle.std.proofs.Common.{length}
use Rattle.append_file.proofs.CellsSoFar.{AddedSoFar}
use Rattle.append_file.proofs.cells.push_content.Given as goal

abbrev pub invariant-loop-rest : goal.invariant-loop-rest
invariant-loop-rest l = AddedSoFar l.bytes l.fn.cells.items l.cells.items l.rest

abbrev pub decreases-loop-rest : goal.decreases-loop-rest
decreases-loop-rest l = length l.rest
