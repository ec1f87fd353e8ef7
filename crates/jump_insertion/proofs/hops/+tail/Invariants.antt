-- The level falls at every hop.
use Rattle.jump_insertion.proofs.hops.+tail.Given as goal

abbrev pub decreases-tail : goal.decreases-tail
decreases-tail g l = l.step.level
