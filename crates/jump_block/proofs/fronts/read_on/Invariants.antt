-- What was read so far is known, and nothing of it has a key at or past x.
use Rattle.std.proofs.Common.{◌-◌}
use Rattle.jump_block.specs.Known.{ReadSoFar}
use Rattle.jump_block.proofs.fronts.read_on.Given as goal

abbrev pub invariant-loop-front : goal.invariant-loop-front
invariant-loop-front g l = ReadSoFar l.x (g.V.View.seen l.fn.view) (g.V.View.seen l.view) l.fn.front l.front

abbrev pub decreases-loop-front : goal.decreases-loop-front
decreases-loop-front g l = 128 - l.front.count
