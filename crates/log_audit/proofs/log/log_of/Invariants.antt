-- The slots below this turn's have ended.
use Rattle.log_audit.specs.Kept.{image_of_kept}
use Rattle.log_audit.proofs.LogSoFar.{LogSoFar}
use Rattle.log_audit.proofs.log.log_of.Given as goal

abbrev pub invariant-loop-slot : goal.invariant-loop-slot
invariant-loop-slot l = LogSoFar l.geometry (image_of_kept l.kept) l.slot l.slots.items l.edge
