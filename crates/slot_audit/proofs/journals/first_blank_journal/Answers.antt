-- A slot without a document; one whose journal is written; one whose is not; and all.
use Rattle.std.proofs.Common.{refl, sym, ◌∙◌, subst, ap, arith}
use Rattle.volume_meaning.specs.Volumes.{IsWritten}
use Rattle.log_audit.specs.KeptVolumes.{image_in}
use Rattle.slot_audit.specs.Journals.{journal_cell}
use Rattle.cell_types.specs.Layout.{outcome_at}
use Rattle.log_audit.proofs.Deciding.{decided_no, decided_yes}
use Rattle.slot_audit.proofs.Going.{AreGoodTo, none_more, slot_more, all_good}
use Rattle.slot_audit.proofs.Stating.{blank_is_least}
use Rattle.slot_audit.proofs.journals.first_blank_journal.Goals as goal

pub loop-slot-preserved-in_default : goal.loop-slot-preserved-in_default
loop-slot-preserved-in_default c = none_more c.loop-slot.invariant c.in_default.ensures.none

pub loop-slot-preserved : goal.loop-slot-preserved
loop-slot-preserved c = slot_more c.loop-slot.invariant c.in-Some.ensures.some c.in-Some.ensures.same
    (decided_yes _ c.is_journal_written.ensures c.if-is_journal_written.true)

pub returns-in-loop-slot : goal.returns-in-loop-slot
returns-in-loop-slot c = let volume = c.args.volume.now in
    let image = image_in volume in
    blank_is_least volume.is_log _ c.in-Some.ensures.some refl
    (c.outcome_at-cell.ensures.at ∙ ap outcome_at (sym c.in-Some.ensures.same)) (sym c.at.ensures ∙ (c.in-Some-at).is)
    (subst (AreGoodTo volume.geometry image (λ t q. IsWritten image (journal_cell t q))) (sym c.in-Some.ensures.same)
    c.loop-slot.invariant)
    (decided_no _ c.is_journal_written.ensures c.if-is_journal_written.false)

pub returns : goal.returns
returns c = all_good c.loop-slot.invariant (omega (arith, c.loop-slot-test.false, c.slots-slot-end.ensures.slots))
