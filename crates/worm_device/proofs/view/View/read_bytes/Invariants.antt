-- The bytes of the cells before this turn's are read.
use Rattle.worm_device.proofs.ReadBytes.{HasViewedBytes}
use Rattle.worm_device.proofs.view.View.read_bytes.Given as goal

abbrev pub invariant-loop-place : goal.invariant-loop-place
invariant-loop-place g l =
    HasViewedBytes l.place l.at l.initial.bytes l.bytes (g.Self.View.seen l.fn.self) (g.Self.View.seen l.self)
