-- No planned cell of another was met so far.
use Rattle.std.proofs.Common.{◌≤◌, ◌-◌}
use Rattle.worm_device.specs.Overlays.{of_overlay}
use Rattle.jump_insertion.specs.Meeting.{NoneMet}
use Rattle.jump_insertion.proofs.meeting.is_met.Given as goal

abbrev pub invariant-loop-at : goal.invariant-loop-at
invariant-loop-at g l = NoneMet (of_overlay g.V.View.seen l.overlay) l.head l.block (l.block - 256) l.from
    × (l.from ≤ l.end)

abbrev pub decreases-loop-at : goal.decreases-loop-at
decreases-loop-at g l = l.end - l.from
