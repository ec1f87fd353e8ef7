-- The listed cells below the next one stand, and each turn goes past one.
use Rattle.std.proofs.Common.{◌-◌}
use Rattle.receipt_check.specs.Checks.{ComparedSoFar}
use Rattle.receipt_check.proofs.checking.compare.Given as goal

abbrev pub invariant-loop-next : goal.invariant-loop-next
invariant-loop-next g l = ComparedSoFar l.listed l.next (g.D.Device.state l.fn.device) (g.D.Device.state l.device)

abbrev pub decreases-loop-next : goal.decreases-loop-next
decreases-loop-next g l = l.cells - l.next
