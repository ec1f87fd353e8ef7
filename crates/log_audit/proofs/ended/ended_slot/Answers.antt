-- The slot reserves no cells of the pool, or has no outcome; it lacks its stamp, or its done cell; it is done.
use Rattle.std.proofs.Common.{⊎_elim, subst}
use Rattle.cell_types.specs.Layout.{outcome_at}
use Rattle.cell_types.specs.declared.record_cell.RecordCell.{RecordCell}
use Rattle.cell_types.specs.declared.record_cell.RecordCell.TheVariants.{Commit}
use Rattle.volume_meaning.specs.Volumes.{Holds}
use Rattle.log_audit.specs.Kept.{image_of_kept}
use Rattle.volume_meaning.specs.Slots.{IsAbandonedSlot}
use Rattle.log_audit.proofs.Deciding.{none_held, is_held, decided_no, decided_yes}
use Rattle.log_audit.proofs.Outcomes.{ended_with, done_with}
use Rattle.log_audit.proofs.ended.ended_slot.Goals as goal

pub returns-in_default-clause-none : goal.returns-in_default-clause-none
returns-in_default-clause-none c = ⊎_elim
    (λ (a : IsAbandonedSlot c.args.geometry.now (image_of_kept c.args.kept.now) (image_of_kept c.args.kept.now) c.args.slot).
    c.in_default.ensures.none a.start a.length a.abandoned.abandons.reserves)
    (λ d. c.in_default.ensures.none d.start d.length d.done.commits.reserves)

pub returns-in_default-record_at-clause-none : goal.returns-in_default-record_at-clause-none
returns-in_default-record_at-clause-none c = ⊎_elim
    (λ (a : IsAbandonedSlot c.args.geometry.now (image_of_kept c.args.kept.now) (image_of_kept c.args.kept.now) c.args.slot).
    none_held c.record_at.ensures.one c.in_default-record_at.is c.outcome_at.ensures.at a.abandoned.abandons.outcome)
    (λ d. none_held c.record_at.ensures.one c.in_default-record_at.is c.outcome_at.ensures.at d.done.commits.outcome)

pub returns-then-not-has_its_stamp-clause-none : goal.returns-then-not-has_its_stamp-clause-none
returns-then-not-has_its_stamp-clause-none c = λ ended.
    let image = image_of_kept c.args.kept.now in
    let h : Holds image c.outcome_at.result c.in-Some-record_at.outcome = c.in-Some-record_at.ensures.some in
    let is : Holds image (outcome_at c.args.slot) (Commit c.in-Commit.bytes c.in-Commit.journal) =
    is_held (subst (λ (r : RecordCell). Holds image c.outcome_at.result r) c.in-Commit.is h) c.outcome_at.ensures.at in
    let done = ended_with c.args.geometry.now image c.args.slot c.in-Commit.bytes c.in-Commit.journal is ended in
    decided_no _ c.has_its_stamp.ensures c.if-not-has_its_stamp.true done.done.commits.stamped

pub returns-then-not-is_done_cell-clause-none : goal.returns-then-not-is_done_cell-clause-none
returns-then-not-is_done_cell-clause-none c = λ ended.
    let image = image_of_kept c.args.kept.now in
    let h : Holds image c.outcome_at.result c.in-Some-record_at.outcome = c.in-Some-record_at.ensures.some in
    let is : Holds image (outcome_at c.args.slot) (Commit c.in-Commit.bytes c.in-Commit.journal) =
    is_held (subst (λ (r : RecordCell). Holds image c.outcome_at.result r) c.in-Commit.is h) c.outcome_at.ensures.at in
    let done = ended_with c.args.geometry.now image c.args.slot c.in-Commit.bytes c.in-Commit.journal is ended in
    decided_no _ c.is_done_cell.ensures c.if-not-is_done_cell.true done.done.done

pub returns-else-not-is_done_cell-clause-some : goal.returns-else-not-is_done_cell-clause-some
returns-else-not-is_done_cell-clause-some c =
    let image = image_of_kept c.args.kept.now in
    let h : Holds image c.outcome_at.result c.in-Some-record_at.outcome = c.in-Some-record_at.ensures.some in
    let is : Holds image (outcome_at c.args.slot) (Commit c.in-Commit.bytes c.in-Commit.journal) =
    is_held (subst (λ (r : RecordCell). Holds image c.outcome_at.result r) c.in-Commit.is h) c.outcome_at.ensures.at in
    done_with c.args.geometry.now image c.args.slot c.in-Commit.bytes c.in-Commit.journal is c.in-Some.ensures.some
    (decided_yes _ c.fits_into.ensures c.if-not-fits_into.false) (decided_yes _ c.has_its_stamp.ensures c.if-not-has_its_stamp.false)
    (decided_yes _ c.is_done_cell.ensures c.if-not-is_done_cell.false)
