-- The journals of the slots below this turn's are in order.
use Rattle.log_audit.specs.KeptVolumes.{image_in}
use Rattle.slot_audit.specs.Journals.{IsOrdered}
use Rattle.slot_audit.proofs.Going.{AreGoodTo}
use Rattle.slot_audit.proofs.journals.first_disorder.Given as goal

abbrev pub invariant-loop-slot : goal.invariant-loop-slot
invariant-loop-slot l = AreGoodTo l.volume.geometry (image_in l.volume)
    (IsOrdered l.volume.geometry (image_in l.volume)) l.slot
