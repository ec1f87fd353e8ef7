-- No record stands there, another one does, or a posting does.
use Rattle.std.proofs.Common.{refl, subst, ap, Some}
use Rattle.cell_types.specs.declared.record_cell.RecordCell.{RecordCell}
use Rattle.volume_meaning.specs.Blocks.{PostingFields, posting_record}
use Rattle.volume_meaning.proofs.Fronts.{one_posting}
use Rattle.volume_meaning.specs.Volumes.{Holds}
use Rattle.log_audit.specs.Kept.{image_of_kept}
use Rattle.log_audit.proofs.Deciding.{none_held}
use Rattle.list_audit.proofs.held_posting.posting_at.Goals as goal

pub returns-in_default-clause-none : goal.returns-in_default-clause-none
returns-in_default-clause-none c = λ p h. none_held c.record_at.ensures.one c.in_default.is refl h

pub returns-in_default-clause-one : goal.returns-in_default-clause-one
returns-in_default-clause-one c = λ p h. absurd (none_held c.record_at.ensures.one c.in_default.is refl h)

pub returns-clause-one : goal.returns-clause-one
returns-clause-one c = λ p h.
    let is : Holds (image_of_kept c.args.kept.now) c.args.at (posting_record (record { key = c.in-Posting.key; last = c.in-Posting.last; tag = c.in-Posting.tag })) =
    subst (λ (r : RecordCell). Holds (image_of_kept c.args.kept.now) c.args.at r) c.in-Posting.is c.in-Some.ensures.some in
    ap (λ (q : PostingFields). Some q) (one_posting (image_of_kept c.args.kept.now) c.args.at (record { key = c.in-Posting.key; last = c.in-Posting.last; tag = c.in-Posting.tag }) p is h)
