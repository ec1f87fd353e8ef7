-- A blank cell; and a place more.
use Rattle.std.proofs.Common.{◌+◌, ℕ, ap}
use borrow.Author.Count.{below_more}
use Rattle.volume_meaning.specs.Volumes.{IsWritten}
use Rattle.log_audit.specs.Kept.{image_of_kept}
use Rattle.log_audit.proofs.Deciding.{no, written_by}
use Rattle.slot_audit.specs.Journals.{journal_cell}
use Rattle.slot_audit.proofs.Going.{blank_by}
use Rattle.slot_audit.proofs.journals.is_journal_written.Goals as goal

pub returns-then-is_none : goal.returns-then-is_none
returns-then-is_none c = no (λ written. blank_by c.at.ensures c.if-is_none.ensures
    (ap (λ (from : ℕ). from + c.loop-place.place) c.journal_at-from.ensures.at)
    (written c.loop-place.place c.loop-place-test.true))

pub loop-place-preserved : goal.loop-place-preserved
loop-place-preserved c =
    below_more (λ place. IsWritten (image_of_kept c.args.kept.now) (journal_cell c.args.stored.now place)) c.loop-place.place
    c.loop-place.invariant (written_by c.at.ensures c.if-is_none.ensures
    (ap (λ (from : ℕ). from + c.loop-place.place) c.journal_at-from.ensures.at))
