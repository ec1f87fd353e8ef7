-- One cell after another.
use Rattle.std.proofs.Common.{arith}
use Rattle.worm_device.specs.Overlays.{of_overlay}
use Rattle.worm_device.proofs.ReadRows.{row_viewed_more}
use Rattle.worm_device.proofs.overlay.Overlay.read_each.Goals as goal

pub loop-place-preserved : goal.loop-place-preserved
loop-place-preserved g c = row_viewed_more c.args.at c.loop-place.place c.args.cells.now c.loop-place.cells
    c.in_ok-cells.field-0 (of_overlay g.V.View.seen c.args.self.now) (of_overlay g.V.View.seen c.loop-place.self)
    (of_overlay g.V.View.seen c.read.new.self) (omega arith) c.loop-place.invariant
    (rw c.in_ok-cells.was at c.read.ensures)
