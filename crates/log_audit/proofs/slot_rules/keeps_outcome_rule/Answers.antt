-- The outcome cell holds no record; the slot is given up; its document does not fit, or does.
use Rattle.std.proofs.Common.{⊎_elim, inl, subst}
use Rattle.volume_meaning.specs.Volumes.{Holds}
use Rattle.cell_types.specs.Layout.{outcome_at}
use Rattle.cell_types.specs.declared.record_cell.RecordCell.{RecordCell}
use Rattle.cell_types.specs.declared.record_cell.RecordCell.TheVariants.{Abandon, Commit}
use Rattle.log_audit.specs.Kept.{image_of_kept}
use Rattle.log_audit.proofs.Deciding.{no, yes, none_held, is_held, written_by, decided_no, decided_yes}
use Rattle.log_audit.proofs.Outcomes.{outcome_fits, outcome_of_commit}
use Rattle.log_audit.proofs.slot_rules.keeps_outcome_rule.Goals as goal

pub returns-in_default : goal.returns-in_default
returns-in_default c = no (λ h. ⊎_elim
    (λ (a : Holds (image_of_kept c.args.kept.now) (outcome_at c.args.slot) Abandon). none_held c.record_at.ensures.one c.in_default.is c.outcome_at.ensures.at a)
    (λ d. none_held c.record_at.ensures.one c.in_default.is c.outcome_at.ensures.at d.2)
    h.outcome)

pub returns-in-Abandon : goal.returns-in-Abandon
returns-in-Abandon c =
    let image = image_of_kept c.args.kept.now in
    let h : Holds image c.outcome_at.result c.in-Some.outcome = c.in-Some.ensures.some in
    let is : Holds image (outcome_at c.args.slot) Abandon =
    is_held (subst (λ (r : RecordCell). Holds image c.outcome_at.result r) c.in-Abandon.is h) c.outcome_at.ensures.at in
    yes (record { reserve = written_by c.at.ensures c.if-is_none.ensures c.reserve_at.ensures.at; outcome = inl is })

pub returns-then-not-fits_reserved : goal.returns-then-not-fits_reserved
returns-then-not-fits_reserved c =
    let image = image_of_kept c.args.kept.now in
    let h : Holds image c.outcome_at.result c.in-Some.outcome = c.in-Some.ensures.some in
    let is : Holds image (outcome_at c.args.slot) (Commit c.in-Commit.bytes c.in-Commit.journal) =
    is_held (subst (λ (r : RecordCell). Holds image c.outcome_at.result r) c.in-Commit.is h) c.outcome_at.ensures.at in
    no (λ rule. decided_no _ c.fits_reserved.ensures c.if-not-fits_reserved.true
    (outcome_fits c.args.geometry.now image c.args.slot c.in-Commit.bytes c.in-Commit.journal is rule))

pub returns-else-not-fits_reserved : goal.returns-else-not-fits_reserved
returns-else-not-fits_reserved c =
    let image = image_of_kept c.args.kept.now in
    let h : Holds image c.outcome_at.result c.in-Some.outcome = c.in-Some.ensures.some in
    let is : Holds image (outcome_at c.args.slot) (Commit c.in-Commit.bytes c.in-Commit.journal) =
    is_held (subst (λ (r : RecordCell). Holds image c.outcome_at.result r) c.in-Commit.is h) c.outcome_at.ensures.at in
    outcome_of_commit c.args.geometry.now image c.args.slot c.in-Commit.bytes c.in-Commit.journal is c.has_its_stamp.result
    (written_by c.at.ensures c.if-is_none.ensures c.reserve_at.ensures.at)
    (decided_yes _ c.fits_reserved.ensures c.if-not-fits_reserved.false) c.has_its_stamp.ensures
