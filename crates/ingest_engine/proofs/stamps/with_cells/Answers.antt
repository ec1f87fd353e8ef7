-- A slot that is not done has no stamp, and the stamp of one that is done stands in its spare cell.
use Rattle.cell_types.proofs.Passed.{handed}
use Rattle.cell_types.specs.declared.refusal.Fault.TheVariants.{Tampered}
use Rattle.ingest_engine.proofs.ReadStamps.{slot_done, slot_tampered, slot_undone}
use Rattle.ingest_engine.proofs.stamps.with_cells.Goals as goal

-- its cells are no state
pub returns-in_err-slot_of_row : goal.returns-in_err-slot_of_row
returns-in_err-slot_of_row c = λ old new reads.
    rw (handed c.from_residual.result (Tampered c.in_err-slot_of_row.field-0.0) c.from_residual.ensures.1)
    (slot_tampered c.args.geometry.now c.args.slot c.args.row.now c.args.greatest c.requires.slot
    c.requires.four old new
    reads c.in_err-slot_of_row.field-0.0 (rw c.in_err-slot_of_row.was at c.slot_of_row.ensures))

pub returns-in_default : goal.returns-in_default
returns-in_default c = λ old new reads.
    slot_undone c.args.geometry.now c.args.slot c.args.row.now c.args.greatest c.requires.slot c.requires.four old new
    reads c.in_ok-slot_of_row.field-0 c.in_ok-slot_of_row.ensures c.in_default.not-Done

pub returns : goal.returns
returns c = λ old new reads.
    slot_done c.args.geometry.now c.args.slot c.args.row.now c.args.greatest c.requires.slot
    c.requires.four old new reads
    c.in-Done.start c.in-Done.length c.in-Done.bytes c.in-Done.journal (rw c.in-Done.is at c.in_ok-slot_of_row.ensures)
    c.stamp_of_row-stamp.result c.later_of.result c.stamp_of_row-stamp.ensures c.later_of.ensures.first
    c.later_of.ensures.second c.later_of.ensures.either
