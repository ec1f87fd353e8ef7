-- The targets of the places before this turn's hold what their copies do.
use Rattle.std.proofs.Common.{ℕ, ◌<◌}
use Rattle.log_audit.specs.Kept.{image_of_kept}
use Rattle.slot_audit.specs.Journals.{IsRedone}
use Rattle.slot_audit.proofs.targets.first_undone_of.Given as goal

abbrev pub invariant-loop-place : goal.invariant-loop-place
invariant-loop-place l = (other : ℕ) → other < l.place → IsRedone (image_of_kept l.kept) l.stored other
