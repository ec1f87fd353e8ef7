-- A planned cell; one that is asked for below; one from `fresh` on, or past the view below.
use Rattle.std.proofs.Common.{sym, arith}
use Rattle.worm_device.proofs.Covering.{reads_planned, reads_below}
use Rattle.worm_device.proofs.shown.OverlayView.read.Goals as goal

pub returns-in-Some : goal.returns-in-Some
returns-in-Some g c = reads_planned c.args.self.now.own.now.planned c.args.self.now.own.now.owners c.args.self.now.own.ghost_name c.args.self.now.fresh c.args.at
    (g.V.View.seen c.args.self.now.view) _ (sym c.in-Some.ensures)

pub returns-then-at-cells : goal.returns-then-at-cells
returns-then-at-cells g c = reads_below c.args.self.now.own.now.planned c.args.self.now.own.now.owners c.args.self.now.own.ghost_name c.args.self.now.fresh c.args.at
    (g.V.View.seen c.args.self.now.view) _ c.read.result (sym (rw c.in_default.is at c.cell.ensures)) (omega arith)
    c.read.ensures
