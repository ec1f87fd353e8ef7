-- The ways of the child cells before this turn's.
use Rattle.tree_audit.proofs.Placing.{AreWaysSoFar}
use Rattle.tree_audit.proofs.ways.ways_of.Given as goal

abbrev pub invariant-loop-lead : goal.invariant-loop-lead
invariant-loop-lead l = AreWaysSoFar l.nodes l.leads l.lead-index l.ways.items
