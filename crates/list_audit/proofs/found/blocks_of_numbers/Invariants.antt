-- The blocks of the numbers before this turn's were put.
use Rattle.list_audit.proofs.Numbering.{AreDecodedSoFar}
use Rattle.list_audit.proofs.found.blocks_of_numbers.Given as goal

abbrev pub invariant-loop-number : goal.invariant-loop-number
invariant-loop-number l = AreDecodedSoFar l.numbers l.number-index l.blocks.items
