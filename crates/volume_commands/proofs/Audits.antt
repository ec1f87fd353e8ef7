-- How an audit ends: never with `Usage`, and where nothing hinders it with no refusal but want of memory.
use Rattle.std.proofs.Common.{Result, Ok, Err, subst, sym}
use Rattle.cell_types.specs.Layout.{Layout}
use Rattle.cell_types.specs.declared.refusal.Refusal.{Refusal}
use Rattle.cell_types.specs.declared.refusal.Refusal.TheVariants as refusals
use Rattle.worm_device.specs.State.{IsDevice}
use Rattle.worm_device.proofs.Counting.{rose_or_still}
use Rattle.volume_audit.specs.Audits.{Audits, SettlesThenAudits}
use Rattle.volume_audit.specs.declared.report.AuditReport.{AuditReport}
use Rattle.volume_audit.proofs.Comes.{refuses}
use Rattle.volume_commands.specs.Auditing.{DoesAudit, IsReadyToAudit, report_text}
use Rattle.volume_commands.specs.Ports.{Ports, IsOkOrNoMemory, TellsFromMemory}
use Rattle.command_laws.proofs.Completing.{audits_whole}

module _ (old new : Ports) where
  told_is_used : (answer : Result AuditReport Refusal) → Audits old.device new.device answer
      → TellsFromMemory report_text answer old new (Err refusals.Usage) → ⊥
  told_is_used (Ok report) audits tells = tells
  told_is_used (Err refused) audits tells =
      refuses refusals.Usage (subst (λ (r : Refusal). SettlesThenAudits old.device new.device (Err r))
      (sym tells.0) audits.comes)
      (λ ends. ends) (λ ends. ends)

  -- it never ends with `Usage`
  pub audit_is_used : DoesAudit old new (Err refusals.Usage) → ⊥
  audit_is_used does = told_is_used does.answer does.audits does.tells

module _ (g : Layout) (old new : Ports) (ready : IsReadyToAudit g old new) (device : IsDevice old.device)
    (device_new : IsDevice new.device) where
  told : (result : Result Unit Refusal) (answer : Result AuditReport Refusal) → Audits old.device new.device answer
      → TellsFromMemory report_text answer old new result → IsOkOrNoMemory result
  told (Ok u) answer audits tells = tt
  told (Err refusal) (Err refused) audits tells =
      subst (λ (r : Refusal). IsOkOrNoMemory (Err r)) (sym tells.0)
      (subst (λ (r : Refusal). IsOkOrNoMemory (Err r)) (sym
      (audits_whole ready.log device device_new audits.called refused
      audits.comes)) tt)
  told (Err refusals.NoMemory) (Ok report) audits tells = tt
  told (Err refusals.SinkFault) (Ok report) audits tells = rose_or_still _ _ tells.faults ready.no_sink_fault
  told (Err refusal) (Ok report) audits tells = absurd tells

  -- the answer is Ok, or want of memory
  pub audit_completes : (result : Result Unit Refusal) → DoesAudit old new result → IsOkOrNoMemory result
  audit_completes result does = told result does.answer does.audits does.tells
