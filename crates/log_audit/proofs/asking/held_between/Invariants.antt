-- A kept cell of the number can stand between the two places alone.
use Rattle.std.proofs.Common.{◌≤◌, ◌-◌, length}
use Rattle.log_audit.specs.AllRows.{all_rows}
use Rattle.log_audit.specs.Cells.{AreOnlyBetween}
use Rattle.log_audit.proofs.asking.held_between.Given as goal

abbrev pub invariant-loop-low : goal.invariant-loop-low
invariant-loop-low l = AreOnlyBetween (all_rows l.rows) l.low l.high l.number × (l.high ≤ length (all_rows l.rows)) × (l.high ≤ l.to)

abbrev pub decreases-loop-low : goal.decreases-loop-low
decreases-loop-low l = l.high - l.low
