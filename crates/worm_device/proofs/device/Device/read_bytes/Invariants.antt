-- The bytes of the cells before this turn's are read.
use Rattle.worm_device.proofs.ReadBytes.{HasReadBytes}
use Rattle.worm_device.proofs.device.Device.read_bytes.Given as goal

abbrev pub invariant-loop-place : goal.invariant-loop-place
invariant-loop-place g l =
    HasReadBytes l.place l.at l.initial.bytes l.bytes (g.Self.Device.state l.fn.self) (g.Self.Device.state l.self)
