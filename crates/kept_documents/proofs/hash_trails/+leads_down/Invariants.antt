-- Each node is one level further down.
use Rattle.std.proofs.Common.{◌-◌}
use Rattle.kept_documents.proofs.hash_trails.+leads_down.Given as goal

abbrev pub decreases-leads_down : goal.decreases-leads_down
decreases-leads_down g l = 64 - l.level
