-- Each node is one level further down.
use Rattle.std.proofs.Common.{◌-◌}
use Rattle.receipt_cells.proofs.path.+list_down.Given as goal

abbrev pub decreases-list_down : goal.decreases-list_down
decreases-list_down g l = 64 - l.level
