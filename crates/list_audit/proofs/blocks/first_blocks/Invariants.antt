-- The first blocks of the lists below this turn's were found.
use Rattle.std.proofs.Common.{◌≡◌}
use Rattle.list_audit.specs.Blocks.{AreFound}
use Rattle.list_audit.proofs.Closing.{AreFirstBelow}
use Rattle.list_audit.proofs.blocks.first_blocks.Given as goal

abbrev pub invariant-loop-list : goal.invariant-loop-list
invariant-loop-list l = (l.found.for_two ≡ l.for_two) × AreFirstBelow l.for_two l.geometry l.list l.found.blocks.items × AreFound l.found
