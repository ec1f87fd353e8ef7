-- One after another.
use Rattle.std.proofs.Common.{arith}
use Rattle.worm_device.specs.Overlays.{of_overlay}
use Rattle.worm_device.specs.Overlaying.{overlay_shows}
use Rattle.worked_lists.proofs.InRow.{row_begins, row_goes_on}
use Rattle.worked_lists.proofs.growing.plan_over.Goals as goal

pub loop-done-init : goal.loop-done-init
loop-done-init g c =
    row_begins (of_overlay g.V.View.seen c.args.overlay.now)
    (overlay_shows g.V.View.seen g.met.V.View.proper c.args.overlay.now)
    c.args.list.head c.args.list.bounds.pool c.args.pool c.args.first c.args.count c.requires.fresh c.requires.room
    c.requires.nothing

pub loop-done-preserved : goal.loop-done-preserved
loop-done-preserved g c =
    row_goes_on (of_overlay g.V.View.seen c.args.overlay.now) (of_overlay g.V.View.seen c.loop-done.overlay)
    (of_overlay g.V.View.seen c.insert.new.overlay) c.args.list.head c.args.list.bounds.pool c.loop-done.pool
    c.insert.new.pool c.args.first c.args.count c.loop-done.done _ c.in-Ok.entry c.loop-done.invariant
    c.loop-done-test.true c.in-Ok.ensures.pool c.in-Ok.ensures.inserts (omega arith)
