-- The cells before this turn's are written.
use Rattle.host_files.specs.Over.{state_over}
use Rattle.worm_device.proofs.Rows.{HasWritten}
use Rattle.host_files.proofs.file_device.FileDevice.write_each.Given as goal

abbrev pub invariant-loop-place : goal.invariant-loop-place
invariant-loop-place g l = HasWritten l.place l.at l.values (state_over l.fn.self) (state_over l.self)
