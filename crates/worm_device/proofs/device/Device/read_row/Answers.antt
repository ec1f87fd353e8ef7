-- One cell after another.
use Rattle.std.proofs.Common.{arith}
use Rattle.worm_device.proofs.ReadRows.{row_read_more}
use Rattle.worm_device.proofs.device.Device.read_row.Goals as goal

pub loop-place-preserved : goal.loop-place-preserved
loop-place-preserved g c = row_read_more c.args.at c.loop-place.place c.args.cells.now c.loop-place.cells
    c.in_ok-cells.field-0 (g.Self.Device.state c.args.self.now) (g.Self.Device.state c.loop-place.self)
    (g.Self.Device.state c.read.new.self) (omega arith) c.loop-place.invariant
    (rw c.in_ok-cells.was at c.read.ensures)
