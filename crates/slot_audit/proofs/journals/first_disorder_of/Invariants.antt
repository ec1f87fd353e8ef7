-- The places before this turn's are in order.
use Rattle.std.proofs.Common.{ℕ, ◌<◌}
use Rattle.log_audit.specs.KeptVolumes.{image_in}
use Rattle.slot_audit.specs.Journals.{IsOrdered}
use Rattle.slot_audit.proofs.journals.first_disorder_of.Given as goal

abbrev pub invariant-loop-place : goal.invariant-loop-place
invariant-loop-place l = (other : ℕ) → other < l.place → IsOrdered l.volume.geometry (image_in l.volume) l.stored other
