-- The cells before this turn's are read.
use Rattle.worm_device.proofs.ReadRows.{HasViewed}
use Rattle.worm_device.proofs.view.View.read_row.Given as goal

abbrev pub invariant-loop-place : goal.invariant-loop-place
invariant-loop-place g l =
    HasViewed l.place l.at l.initial.cells l.cells (g.Self.View.seen l.fn.self) (g.Self.View.seen l.self)
