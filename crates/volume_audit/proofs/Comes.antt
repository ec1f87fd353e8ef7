-- What an audit is beside other calls that settle first: it looks alone, and its evidence is licensed.
use Rattle.std.proofs.Common.{◌≡◌, Result, Err, subst}
use Rattle.std.specs.Prelude.{IsTrue}
use Rattle.cell_types.specs.declared.refusal.Evidence.{Evidence}
use Rattle.cell_types.specs.declared.refusal.Refusal.{Refusal}
use Rattle.cell_types.specs.declared.refusal.Refusal.TheVariants.{Tampered}
use Rattle.worm_device.specs.State.{DeviceState}
use Rattle.commit_record.specs.Licences.{IsLicensed}
use Rattle.recovery_engine.specs.Settling.{SettleEnds, SettlesFirst}
use Rattle.volume_audit.specs.Audits.{AuditEnds, SettlesThenAudits, settled, settling}
use Rattle.volume_audit.specs.declared.report.AuditReport.{AuditReport}

module _ {old new : DeviceState} where
  pub settles_first : {result : Result AuditReport Refusal} → SettlesThenAudits old new result → SettlesFirst AuditReport old new result
  settles_first (settling refusal is settles) = SettlesFirst.settling refusal is settles
  settles_first (settled r has ends) = SettlesFirst.settled r has

  -- how it refuses: as settling does, or as the audit does
  pub refuses : (refusal : Refusal) {P : Type 0} → SettlesThenAudits old new (Err refusal)
      → (SettleEnds old new (Err refusal) → P) → (AuditEnds old new (Err refusal) → P) → P
  refuses refusal (settling other is settles) one two =
      let same : other ≡ refusal = cc in one (subst (λ (r : Refusal). SettleEnds old new (Err r)) same settles.ends)
  refuses refusal (settled r has ends) one two = two ends

  pub licensed : (e : Evidence) → SettlesThenAudits old new (Err (Tampered e)) → IsTrue old.tells → IsLicensed old new e
  licensed e comes tells = refuses (Tampered e) comes (λ ends. (ends tells).licensed) (λ ends. (ends tells).0)
