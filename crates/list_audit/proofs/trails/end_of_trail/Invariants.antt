-- The trail leads from the first block to this turn's.
use Rattle.log_audit.specs.Kept.{image_of_kept}
use Rattle.list_audit.proofs.Walking.{IsOnWay}
use Rattle.list_audit.proofs.trails.end_of_trail.Given as goal

abbrev pub invariant-loop-turn : goal.invariant-loop-turn
invariant-loop-turn l = IsOnWay l.geometry (image_of_kept l.kept) l.list l.posting l._turn l.block
