use Rattle.std.proofs.Common.{◌<◌}
use Rattle.host_files.proofs.pages.Pages.oldest.Given as goal

abbrev pub invariant-loop-frame : goal.invariant-loop-frame
invariant-loop-frame l = l.oldest < 16
