-- Where nothing is planned in the row, and all of it is asked for below.
use Rattle.std.proofs.Common.{arith, refl}
use Rattle.worm_device.proofs.Covering.{reads_row_below}
use Rattle.worm_device.proofs.shown.OverlayView.read_row.Goals as goal

pub returns-then-not-plans_between : goal.returns-then-not-plans_between
returns-then-not-plans_between g c = reads_row_below c.args.self.now.own.now.planned c.args.self.now.own.now.owners
    c.args.self.now.own.ghost_name c.args.self.now.fresh c.args.at (g.V.View.seen c.args.self.now.view)
    (g.V.View.seen c.read_row.new.self) c.args.cells.now c.read_row.new.cells c.read_row.result
    (c.if-not-plans_between.ensures.none refl)
    (omega (arith, c.if-end-self.true, c.if-end-cells.true, c.cells.ensures.cells))
    (record { viewed = c.read_row.ensures.viewed; size = c.read_row.ensures.size; answer = c.read_row.ensures.answer; cause = c.read_row.ensures.cause; count = c.read_row.ensures.count })
