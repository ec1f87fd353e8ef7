-- What it means that a volume is audited before it is copied, and what is known of it then.
use Rattle.std.specs.Prelude.{◌≡◌, ℕ, List, Contains, Result, Ok, Err, IsTrue}
use Rattle.cell_types.specs.Image.{IsUnchanged}
use Rattle.cell_types.specs.Layout.{IsLayout, Layout}
use Rattle.cell_types.specs.declared.refusal.Refusal.{Refusal}
use Rattle.cell_types.specs.declared.refusal.Refusal.TheVariants.{NoMemory}
use Rattle.volume_meaning.specs.Documents.{AreDocuments, Document}
use Rattle.volume_meaning.specs.Slots.{IsDoneSlot}
use Rattle.volume_meaning.specs.Volumes.{IsVolume}
use Rattle.tamper_rules.specs.Settling.{Settled, Sound}
use Rattle.worm_device.specs.Calls.{Called}
use Rattle.worm_device.specs.Counts.{IsStill}
use Rattle.worm_device.specs.State.{DeviceState}
use Rattle.worm_device.specs.Views.{seen_directly}
use Rattle.recovery_engine.specs.Settling.{Settles}
use Rattle.command_laws.specs.WholeLogs.{HasSteadyVolume}
use Rattle.volume_audit.specs.Audits.{Audits}
use Rattle.volume_audit.specs.declared.report.AuditReport.{AuditReport}
use Rattle.volume_copy.specs.Pairs.{slots_of}
use Rattle.volume_copy.specs.Reading.{ReadingFails, RiseFrom, part_slots}
use Rattle.volume_copy.specs.Walking.{AreFound}
use Rattle.volume_copy.specs.declared.audited.AuditedVolume.{AuditedVolume}

-- the slots of its documents
abbrev pub done_of : AuditedVolume → List ℕ
done_of volume = part_slots volume.parts.items

-- Why a volume is not read: its audit refuses; or it was audited, and settling refuses behind it, or a look at its slots.
pub data RefusesVolume (old new : DeviceState) (refusal : Refusal) : Type 0 where
  by_audit : Audits old new (Err refusal) → RefusesVolume old new refusal
  by_settling : (between : DeviceState) (report : AuditReport) → Audits old between (Ok report)
      → Settles between new (Err refusal) → RefusesVolume old new refusal
  by_reading : Called old new → ReadingFails old new refusal → RefusesVolume old new refusal

-- The volume is settled, all that stands is sure, and these are the slots of its documents.
pub record IsWholeVolume (s : DeviceState) (done : List ℕ) : Type 0 where
  pub settled : Settled s.cells s.image
  pub sure : IsUnchanged s.image s.sure
  pub slots : (documents : List Document) → AreDocuments s.cells s.image documents → slots_of documents ≡ done

-- A volume was audited, and is as settling makes it of a sound image. Its numbers are such ones over every device. Whoever
-- else writes, each slot that was done at entry is among those of its documents, which rise.
pub record HasAudited (old new : DeviceState) (volume : AuditedVolume) : Type 0 where
  pub called : Called old new
  pub version : volume.volume.version ≡ volume.volume.geometry.version
  pub layout : IsLayout volume.volume.geometry
  pub size : volume.volume.geometry.cells ≡ new.cells
  pub parts : AreFound volume.volume.geometry (seen_directly new 0) volume.parts.items
  pub is_volume : IsTrue old.tells → IsVolume new.cells new.image volume.volume.geometry
  pub rise : RiseFrom 0 (done_of volume)
  pub all : IsTrue old.tells → (n : ℕ) → IsDoneSlot volume.volume.geometry old.image n → Contains (done_of volume) n
  pub whole : IsTrue old.tells → IsStill old.foreign_writes new.foreign_writes → IsWholeVolume new (done_of volume)
  pub settles : IsTrue old.tells → IsStill old.foreign_writes new.foreign_writes → (sound : Sound old.cells old.image)
      → new.image ≡ sound.after

-- An audit of a steady volume, with nobody else writing and no call that fails, is refused for want of memory alone.
abbrev pub AuditsSteady : DeviceState → DeviceState → Result AuditedVolume Refusal → Type 0
AuditsSteady old new result =
    (g : Layout) → HasSteadyVolume g old new → (refusal : Refusal) → result ≡ Err refusal → refusal ≡ NoMemory

-- how auditing a volume that is to be copied may end, and why
abbrev pub SourceEnds : DeviceState → DeviceState → Result AuditedVolume Refusal → Type 0
SourceEnds old new (Ok volume) = HasAudited old new volume
SourceEnds old new (Err refusal) = RefusesVolume old new refusal
