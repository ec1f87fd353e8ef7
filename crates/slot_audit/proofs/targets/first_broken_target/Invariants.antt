-- The targets of the slots below this turn's hold what their copies do.
use Rattle.log_audit.specs.KeptVolumes.{image_in}
use Rattle.slot_audit.specs.Journals.{IsRedone}
use Rattle.slot_audit.proofs.Going.{AreGoodTo}
use Rattle.slot_audit.proofs.targets.first_broken_target.Given as goal

abbrev pub invariant-loop-slot : goal.invariant-loop-slot
invariant-loop-slot l = AreGoodTo l.volume.geometry (image_in l.volume) (IsRedone (image_in l.volume)) l.slot
