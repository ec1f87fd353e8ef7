-- The cells before this turn's are read.
use Rattle.worm_device.proofs.ReadRows.{HasRead}
use Rattle.worm_device.proofs.device.Device.read_row.Given as goal

abbrev pub invariant-loop-place : goal.invariant-loop-place
invariant-loop-place g l =
    HasRead l.place l.at l.initial.cells l.cells (g.Self.Device.state l.fn.self) (g.Self.Device.state l.self)
