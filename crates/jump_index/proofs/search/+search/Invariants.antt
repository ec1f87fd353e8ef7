-- The level falls at every hop.
use Rattle.jump_index.proofs.search.+search.Given as goal

abbrev pub decreases-search : goal.decreases-search
decreases-search g l = l.reached.level
