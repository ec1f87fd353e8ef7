-- The cells before this turn's were read.
use Rattle.log_audit.specs.Kept.{image_of_kept}
use Rattle.list_audit.proofs.Spelling.{AreFrontOf}
use Rattle.list_audit.proofs.bodies.stored_of.Given as goal

abbrev pub invariant-loop-place : goal.invariant-loop-place
invariant-loop-place l = AreFrontOf (image_of_kept l.kept) l.start l.bytes l.place l.stored.items
