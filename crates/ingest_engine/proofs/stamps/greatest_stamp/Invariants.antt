-- The slots from one on were read.
use Rattle.std.specs.Prelude.{◌≤◌}
use Rattle.ingest_engine.specs.Stamps.{StampsSoFar}
use Rattle.ingest_engine.proofs.stamps.greatest_stamp.Given as goal

abbrev pub invariant-loop-left : goal.invariant-loop-left
invariant-loop-left g l = (l.left ≤ l.below)
    × StampsSoFar l.volume.geometry l.left l.below l.greatest (g.V.View.seen l.fn.view) (g.V.View.seen l.view)

abbrev pub decreases-loop-left : goal.decreases-loop-left
decreases-loop-left g l = l.left
