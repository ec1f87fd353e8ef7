-- The cells before this turn's place are written.
use Rattle.std.proofs.Common.{ℕ, ◌<◌}
use Rattle.log_audit.specs.Kept.{image_of_kept}
use Rattle.volume_meaning.specs.Volumes.{IsWritten}
use Rattle.slot_audit.specs.Journals.{journal_cell}
use Rattle.slot_audit.proofs.journals.is_journal_written.Given as goal

abbrev pub invariant-loop-place : goal.invariant-loop-place
invariant-loop-place l = (other : ℕ) → other < l.place → IsWritten (image_of_kept l.kept) (journal_cell l.stored other)
