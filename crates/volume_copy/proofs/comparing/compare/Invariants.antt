-- The documents before this place were compared.
use Rattle.volume_copy.proofs.Compared.{ComparedSoFar}
use Rattle.volume_copy.proofs.comparing.compare.Given as goal

abbrev pub invariant-loop-place : goal.invariant-loop-place
invariant-loop-place g l =
    ComparedSoFar l.source l.target (g.D.Device.state l.fn.from) (g.D.Device.state l.from) (g.E.Device.state l.fn.to)
    (g.E.Device.state l.to) l.moved.items l.place
