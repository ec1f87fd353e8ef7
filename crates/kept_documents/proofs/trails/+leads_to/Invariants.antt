-- The level falls at every hop.
use Rattle.kept_documents.proofs.trails.+leads_to.Given as goal

abbrev pub decreases-leads_to : goal.decreases-leads_to
decreases-leads_to g l = l.level
