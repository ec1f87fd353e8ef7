-- The cells before this turn's are written.
use Rattle.worm_device.proofs.Rows.{HasWritten}
use Rattle.worm_device.proofs.device.Device.write_row.Given as goal

abbrev pub invariant-loop-place : goal.invariant-loop-place
invariant-loop-place g l = HasWritten l.place l.at l.values (g.Self.Device.state l.fn.self) (g.Self.Device.state l.self)
