-- The cells before this turn's are read.
use Rattle.worm_device.specs.Overlays.{of_overlay}
use Rattle.worm_device.proofs.ReadRows.{HasViewed}
use Rattle.worm_device.proofs.overlay.Overlay.read_each.Given as goal

abbrev pub invariant-loop-place : goal.invariant-loop-place
invariant-loop-place g l =
    HasViewed l.place l.at l.initial.cells l.cells (of_overlay g.V.View.seen l.fn.self) (of_overlay g.V.View.seen l.self)
