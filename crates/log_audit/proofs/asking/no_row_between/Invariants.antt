-- A kept cell of such a number can stand between the two places alone.
use Rattle.std.proofs.Common.{◌≤◌, ◌-◌, length}
use Rattle.log_audit.specs.AllRows.{all_rows}
use Rattle.log_audit.specs.Cells.{AreAllBetween}
use Rattle.log_audit.proofs.asking.no_row_between.Given as goal

abbrev pub invariant-loop-low : goal.invariant-loop-low
invariant-loop-low l = AreAllBetween (all_rows l.rows) l.low l.high l.first l.behind × (l.high ≤ length (all_rows l.rows)) × (l.high ≤ l.to)

abbrev pub decreases-loop-low : goal.decreases-loop-low
decreases-loop-low l = l.high - l.low
