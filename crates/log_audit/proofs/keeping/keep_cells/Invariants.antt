-- The cells below this turn's are kept.
use Rattle.log_audit.proofs.KeptSoFar.{KeptSoFar}
use Rattle.log_audit.proofs.keeping.keep_cells.Given as goal

abbrev pub invariant-loop-at : goal.invariant-loop-at
invariant-loop-at g l = KeptSoFar (g.D.Device.state l.fn.device) (g.D.Device.state l.device) l.at l.kept
