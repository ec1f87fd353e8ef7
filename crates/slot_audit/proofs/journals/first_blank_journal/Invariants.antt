-- The journals of the slots below this turn's are written.
use Rattle.log_audit.specs.KeptVolumes.{image_in}
use Rattle.volume_meaning.specs.Volumes.{IsWritten}
use Rattle.slot_audit.specs.Journals.{journal_cell}
use Rattle.slot_audit.proofs.Going.{AreGoodTo}
use Rattle.slot_audit.proofs.journals.first_blank_journal.Given as goal

abbrev pub invariant-loop-slot : goal.invariant-loop-slot
invariant-loop-slot l =
    AreGoodTo l.volume.geometry (image_in l.volume) (λ s place. IsWritten (image_in l.volume)
    (journal_cell s place)) l.slot
