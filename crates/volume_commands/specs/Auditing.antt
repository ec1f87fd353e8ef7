-- The command `audit`: it says that the volume is sound, with how many slots and cells, or names what is not.
use Rattle.std.specs.Prelude.{◌≡◌, ◌++◌, ℕ, List, codes, Result}
use Rattle.std.specs.Fmt.{decimal}
use Rattle.cell_types.specs.Layout.{Layout}
use Rattle.cell_types.specs.declared.refusal.Refusal.{Refusal}
use Rattle.worm_device.specs.Counts.{IsStill}
use Rattle.volume_audit.specs.Audits.{Audits}
use Rattle.volume_audit.specs.declared.report.AuditReport.{AuditReport}
use Rattle.volume_commands.specs.Ports.{Ports, TellsFromMemory}
use Rattle.command_laws.specs.WholeLogs.{HasSteadyVolume}

-- a number, and what is counted
abbrev pub count_text : ℕ → List ℕ → List ℕ
count_text count counted = decimal count ++ counted

-- the text that tells of a sound volume
abbrev pub report_text : AuditReport → List ℕ
report_text r = codes "sound: " ++ (count_text r.done (codes " done, ")
    ++ (count_text r.abandoned (codes " abandoned, ") ++ count_text r.written (codes " written cells\n")))

-- What the command does: the volume is audited, as the engine says, and its answer is told. The text is made before its
-- first byte goes out.
pub record DoesAudit (old new : Ports) (result : Result Unit Refusal) : Type 0 where
  pub answer : Result AuditReport Refusal
  pub audits : Audits old.device new.device answer
  pub source : new.source ≡ old.source
  pub tells : TellsFromMemory report_text answer old new result

-- all is as the command wants it
pub record IsReadyToAudit (g : Layout) (old new : Ports) : Type 0 where
  pub log : HasSteadyVolume g old.device new.device
  pub no_sink_fault : IsStill old.sink.faults new.sink.faults
