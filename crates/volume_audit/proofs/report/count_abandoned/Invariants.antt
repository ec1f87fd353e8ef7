-- So many so far.
use Rattle.log_audit.specs.KeptVolumes.{image_in}
use Rattle.volume_meaning.specs.Slots.{IsAbandonedSlot}
use Rattle.volume_audit.proofs.Counting.{CountsTo}
use Rattle.volume_audit.proofs.report.count_abandoned.Given as goal

abbrev pub invariant-loop-slot : goal.invariant-loop-slot
invariant-loop-slot l = CountsTo (IsAbandonedSlot l.volume.geometry (image_in l.volume) (image_in l.volume))
    l.slot l.abandoned
