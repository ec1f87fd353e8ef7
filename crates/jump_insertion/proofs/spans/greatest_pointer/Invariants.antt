-- The spans behind this one have no written pointer.
use Rattle.std.proofs.Common.{◌+◌, ◌*◌}
use Rattle.jump_insertion.proofs.Searching.{GreatestSoFar}
use Rattle.jump_insertion.proofs.spans.greatest_pointer.Given as goal

abbrev pub invariant-loop-target : goal.invariant-loop-target
invariant-loop-target g l = GreatestSoFar l.block l.l l.bound (g.V.View.seen l.fn.view) (g.V.View.seen l.view) l.now

abbrev pub decreases-loop-target : goal.decreases-loop-target
decreases-loop-target g l = 15 * l.now.level + l.now.digit
