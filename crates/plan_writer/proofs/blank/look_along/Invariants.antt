-- The cells before this row were blank.
use Rattle.std.proofs.Common.{◌-◌}
use Rattle.plan_writer.proofs.BlankSoFar.{BlankSoFar}
use Rattle.plan_writer.proofs.blank.look_along.Given as goal

abbrev pub invariant-loop-start : goal.invariant-loop-start
invariant-loop-start g l = BlankSoFar l.fn.cells l.start (g.D.Device.state l.fn.device) (g.D.Device.state l.device)

abbrev pub decreases-loop-start : goal.decreases-loop-start
decreases-loop-start g l = l.end - l.start
