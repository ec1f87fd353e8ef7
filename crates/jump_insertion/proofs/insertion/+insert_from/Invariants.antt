-- The level falls at every hop.
use Rattle.jump_insertion.proofs.insertion.+insert_from.Given as goal

abbrev pub decreases-insert_from : goal.decreases-insert_from
decreases-insert_from g l = l.visit.within.level
