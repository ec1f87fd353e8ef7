-- The stamp, the document, the journal, and the sync behind them.
use Rattle.std.proofs.Common.{inl}
use Rattle.cell_types.proofs.Passed.{handed}
use Rattle.cell_types.specs.declared.refusal.Fault.TheVariants as faults
use Rattle.recovery_engine.proofs.Phasing.{phase_ended, phase_synced, phase_unsynced, puts_ended_wider}
use Rattle.plan_writer.proofs.StoredCells.{document_ended, journal_ended, stored}
use Rattle.plan_writer.proofs.steps.store.Goals as goal

-- the stamp was not put
pub returns-in_err-put_stamp : goal.returns-in_err-put_stamp
returns-in_err-put_stamp g c =
    let fault = c.in_err-put_stamp.field-0.0 in
    rw (handed c.from_residual.result fault c.from_residual.ensures.1)
    (phase_ended fault (puts_ended_wider (λ put h. inl h) fault c.in_err-put_stamp.ensures))

-- nor the document whole
pub returns-in_err-put_row : goal.returns-in_err-put_row
returns-in_err-put_row g c =
    let fault = c.in_err-put_row.field-0.0 in
    rw (handed c.from_residual-in_err-put_row.result fault c.from_residual-in_err-put_row.ensures.1)
    (phase_ended fault
    (document_ended c.args.slot c.args.plan.now c.in_ok-put_stamp.ensures fault c.in_err-put_row.ensures))

-- nor the journal
pub returns-in_err-put_row-2 : goal.returns-in_err-put_row-2
returns-in_err-put_row-2 g c =
    let fault = c.in_err-put_row-2.field-0.0 in
    rw (handed c.from_residual-in_err-put_row-2.result fault c.from_residual-in_err-put_row-2.ensures.1)
    (phase_ended fault
    (journal_ended c.args.slot c.args.plan.now c.in_ok-put_stamp.ensures c.in_ok-put_row.ensures fault
    c.in_err-put_row-2.ensures))

-- all were, and are not sure
pub returns-in_err-sync : goal.returns-in_err-sync
returns-in_err-sync g c =
    rw (handed c.from_residual-in_err-sync.result faults.Failed c.from_residual-in_err-sync.ensures.1)
    (phase_unsynced tt _
    (stored c.args.slot c.args.plan.now c.in_ok-put_stamp.ensures c.in_ok-put_row.ensures c.in_ok-put_row-2.ensures)
    c.in_err-sync.ensures)

pub returns : goal.returns
returns g c = phase_synced tt tt tt
    (stored c.args.slot c.args.plan.now c.in_ok-put_stamp.ensures c.in_ok-put_row.ensures c.in_ok-put_row-2.ensures)
    c.in_ok-sync.ensures
