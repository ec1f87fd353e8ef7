-- So many bytes of the body were read, and pushed.
use Rattle.std.proofs.Common.{◌-◌}
use Rattle.record_query.proofs.Bodies.{SeekSoFar}
use Rattle.record_query.proofs.matching.seek.Given as goal

abbrev pub invariant-loop-count : goal.invariant-loop-count
invariant-loop-count g l =
    SeekSoFar (g.V.View.seen l.fn.view) (g.V.View.seen l.view) l.start l.bytes l.position l.head l.fn.matcher l.matcher
    l.count

abbrev pub decreases-loop-count : goal.decreases-loop-count
decreases-loop-count g l = l.head.body_length - l.count
