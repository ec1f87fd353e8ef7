-- The cells before this turn's are read.
use Rattle.std.proofs.Common.{length, ◌-◌}
use Rattle.host_files.proofs.RowCells.{HasShown}
use Rattle.host_files.proofs.pages.Pages.read_row.Given as goal

abbrev pub invariant-loop-done : goal.invariant-loop-done
invariant-loop-done g l =
    HasShown l.done l.cells l.at l.initial.found l.found (g.F.HostFile.state l.fn.file) (g.F.HostFile.state l.file)
    l.fn.self.pages.items l.self.pages.items

abbrev pub decreases-loop-done : goal.decreases-loop-done
decreases-loop-done g l = length l.found - l.done
