-- The documents before this place were copied.
use Rattle.volume_copy.proofs.AddedOn.{RestSoFar}
use Rattle.volume_copy.proofs.adding.copy_rest.Given as goal

abbrev pub invariant-loop-place : goal.invariant-loop-place
invariant-loop-place g l =
    RestSoFar l.source (g.D.Device.state l.fn.from) (g.D.Device.state l.from) (g.E.Device.state l.fn.to)
    (g.E.Device.state l.to) l.fn.moved.items l.moved.items l.place
