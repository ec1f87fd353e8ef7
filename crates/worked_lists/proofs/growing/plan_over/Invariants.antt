-- What is inserted next has a greater key than all that is planned.
use Rattle.std.proofs.Common.{◌-◌}
use Rattle.worm_device.specs.Overlays.{of_overlay}
use Rattle.worked_lists.proofs.InRow.{RowSoFar}
use Rattle.worked_lists.proofs.growing.plan_over.Given as goal

abbrev pub invariant-loop-done : goal.invariant-loop-done
invariant-loop-done g l =
    RowSoFar (of_overlay g.V.View.seen l.fn.overlay) (of_overlay g.V.View.seen l.overlay) l.list.head l.list.bounds.pool
    l.pool l.first l.count l.done

abbrev pub decreases-loop-done : goal.decreases-loop-done
decreases-loop-done g l = l.count - l.done
