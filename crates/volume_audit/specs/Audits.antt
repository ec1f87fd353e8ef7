-- What it means that a volume is audited.
use Rattle.std.specs.Prelude.{◌≡◌, ◌⊎◌, ℕ, Result, Ok, Err, IsTrue, ⊤}
use Rattle.cell_types.specs.Image.{Extends, Image}
use Rattle.cell_types.specs.Layout.{Layout}
use Rattle.cell_types.specs.declared.refusal.Evidence.{Evidence}
use Rattle.cell_types.specs.declared.refusal.Refusal.{Refusal}
use Rattle.cell_types.specs.declared.refusal.Refusal.TheVariants.{Tampered, NoMemory, DeviceFault, NotAVolume, NotFormatted, WrongSize}
use Rattle.volume_meaning.specs.Volumes.{IsVolume}
use Rattle.worm_device.specs.Calls.{Called}
use Rattle.worm_device.specs.Counts.{Rose, IsStill}
use Rattle.worm_device.specs.State.{DeviceState}
use Rattle.commit_record.specs.Licences.{IsLicensed}
use Rattle.recovery_engine.specs.Settling.{HasSettled, Settles}
use Rattle.recovery_engine.specs.declared.settling.Ready.{Ready}
use Rattle.log_audit.specs.Findings.{IsFirstBroken}
use Rattle.log_audit.specs.Logs.{IsUnended}
use Rattle.volume_audit.specs.Reports.{IsSound}
use Rattle.volume_audit.specs.declared.report.AuditReport.{AuditReport}

-- the evidence is the least cell of the least rule that is broken in this volume
pub record IsFirstOn (cells : ℕ) (image : Image) (e : Evidence) : Type 0 where
  pub layout : Layout
  pub volume : IsVolume cells image layout
  pub first : IsFirstBroken layout image e

-- How auditing a volume that is settled may end, and why. Where nobody else wrote it is sound at exit just where each rule
-- is kept there, and otherwise the least rule that is broken is named at its least cell. That cell 0 is no volume cell any
-- more comes of no device that keeps its cells.
abbrev pub AuditEnds : DeviceState → DeviceState → Result AuditReport Refusal → Type 0
AuditEnds old new (Ok report) =
    IsTrue old.tells → IsStill old.foreign_writes new.foreign_writes → IsSound new.cells new.image report
AuditEnds old new (Err (Tampered e)) =
    IsTrue old.tells
    → IsLicensed old new e × (IsStill old.foreign_writes new.foreign_writes → IsFirstOn new.cells new.image e)
AuditEnds old new (Err DeviceFault) = Rose old.faults new.faults
AuditEnds old new (Err NoMemory) = ⊤
AuditEnds old new (Err NotFormatted) = IsTrue old.tells → ⊥
AuditEnds old new (Err (NotAVolume found)) = IsTrue old.tells → ⊥
AuditEnds old new (Err (WrongSize stated real)) = IsTrue old.tells → ⊥
AuditEnds old new (Err refusal) = ⊥

-- Settling was ended, and its refusal is the answer; or the volume was settled, then looked at alone, and is audited.
pub data SettlesThenAudits (old new : DeviceState) (result : Result AuditReport Refusal) : Type 0 where
  settling : (refusal : Refusal) → result ≡ Err refusal → Settles old new (Err refusal) → SettlesThenAudits old new result
  settled : (r : Ready) → HasSettled old new r → AuditEnds old new result → SettlesThenAudits old new result

-- In some image between the one at entry and the one at exit, this is the least cell of the least rule that is broken, or
-- rules 1 to 3 are kept and the slot of this reserve cell has not ended.
pub record WasBroken (old new : DeviceState) (e : Evidence) : Type 0 where
  pub image : Image
  pub since : Extends old.image image
  pub until : Extends image new.image
  pub layout : Layout
  pub volume : IsVolume old.cells image layout
  pub named : IsFirstBroken layout image e ⊎ IsUnended layout image e

-- Whoever else writes, an audit that is done was of a sound volume, and one that names a cell was of one in which this is
-- broken, or settling names it: what was read lies between what stood at entry and what stands at exit.
abbrev pub WasSound : DeviceState → DeviceState → Result AuditReport Refusal → Type 0
WasSound old new (Ok report) = IsTrue old.tells
    → (image : Image) × Extends old.image image × Extends image new.image × IsSound old.cells image report
WasSound old new (Err (Tampered e)) = IsTrue old.tells → Settles old new (Err (Tampered e)) ⊎ WasBroken old new e
WasSound old new (Err refusal) = ⊤

-- what it means that a volume is audited, or why it is not
pub record Audits (old new : DeviceState) (result : Result AuditReport Refusal) : Type 0 where
  pub called : Called old new
  pub comes : SettlesThenAudits old new result
  pub was : WasSound old new result
