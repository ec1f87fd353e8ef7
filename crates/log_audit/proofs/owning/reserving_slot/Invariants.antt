-- The slot that reserves the cell can stand between the two places alone.
use Rattle.std.proofs.Common.{◌≤◌, ◌-◌, length}
use Rattle.log_audit.proofs.Holders.{IsOnlyBetween}
use Rattle.log_audit.proofs.owning.reserving_slot.Given as goal

abbrev pub invariant-loop-low : goal.invariant-loop-low
invariant-loop-low l = IsOnlyBetween l.log.slots.items l.cell l.low l.high × (l.high ≤ length l.log.slots.items)

abbrev pub decreases-loop-low : goal.decreases-loop-low
decreases-loop-low l = l.high - l.low
