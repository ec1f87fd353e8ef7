-- One phase, or two.
use Rattle.std.proofs.Common.{subst, Ok, Err}
use Rattle.cell_types.specs.declared.record_cell.RecordCell.TheVariants.{Abandon}
use Rattle.recovery_engine.specs.Putting.{PutsPhase}
use Rattle.cell_types.proofs.Passed.{handed}
use Rattle.recovery_engine.specs.Journal.{IsEntryPut}
use Rattle.recovery_engine.specs.declared.journal.Journal.{Journal}
use Rattle.recovery_engine.proofs.LastCells.{record_put, this_phase, end_reserved_slot, end_unapplied, end_committed_slot}
use Rattle.recovery_engine.proofs.ending.end_slot.Goals as goal

pub returns-in-Reserved-clause-phases : goal.returns-in-Reserved-clause-phases
returns-in-Reserved-clause-phases g c =
    let old = g.D.Device.state c.args.device.now in
    end_reserved_slot old.image c.args.slot c.in-Reserved.start c.in-Reserved.length _ _ c.args.state.now _
    c.in-Reserved.is
    (this_phase _ _ _ _ _ (record_put Abandon 2 c.outcome_at-at.result _ c.encode.result c.outcome_at-at.ensures.at
    c.encode.ensures.same) c.put_one.ensures)

pub returns-in_err-apply_journal-in-Committed-clause-phases : goal.returns-in_err-apply_journal-in-Committed-clause-phases
returns-in_err-apply_journal-in-Committed-clause-phases g c =
    let old = g.D.Device.state c.args.device.now in
    let new = g.D.Device.state c.apply_journal.new.device in
    rw (handed c.from_residual.result c.in_err-apply_journal-in-Committed.field-0.0 c.from_residual.ensures.1)
    (end_unapplied old.image c.args.slot c.in-Committed.start c.in-Committed.length c.in-Committed.bytes
    c.in-Committed.journal old new new c.args.state.now c.in_err-apply_journal-in-Committed.field-0.0
    c.in-Committed.is
    (subst (λ (j : Journal). PutsPhase (IsEntryPut old.image j.place j.count) old new
    (Err c.in_err-apply_journal-in-Committed.field-0.0)) c.journal_of-journal.ensures
    c.in_err-apply_journal-in-Committed.ensures))

pub returns-in_ok-apply_journal-in-Committed-clause-phases : goal.returns-in_ok-apply_journal-in-Committed-clause-phases
returns-in_ok-apply_journal-in-Committed-clause-phases g c =
    let old = g.D.Device.state c.args.device.now in
    let mid = g.D.Device.state c.apply_journal.new.device in
    let new = g.D.Device.state c.finish.new.device in
    end_committed_slot old.image c.args.slot c.in-Committed.start c.in-Committed.length c.in-Committed.bytes
    c.in-Committed.journal old mid new c.args.state.now c.finish.result c.in-Committed.is
    (subst (λ (j : Journal). PutsPhase (IsEntryPut old.image j.place j.count) old mid (Ok tt))
    c.journal_of-journal.ensures c.in_ok-apply_journal-in-Committed.ensures) c.finish.ensures
