-- The cells before this turn's piece are written.
use Rattle.std.proofs.Common.{◌≤◌, ◌-◌, length}
use Rattle.host_files.specs.Over.{state_over}
use Rattle.worm_device.proofs.Rows.{HasWritten}
use Rattle.host_files.proofs.device.FileDeviceDevice.write_row.Given as goal

abbrev pub invariant-loop-done : goal.invariant-loop-done
invariant-loop-done g l =
    HasWritten l.done l.at l.values (state_over l.fn.self) (state_over l.self) × (l.done ≤ length l.values)

abbrev pub decreases-loop-done : goal.decreases-loop-done
decreases-loop-done g l = length l.values - l.done
