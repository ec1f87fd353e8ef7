-- Laws of commands on steady devices, where nobody else writes.
use Rattle.std.specs.Prelude.{◌≡◌, ℕ, List, Result, Ok}
use Rattle.std.specs.Global.{Vec}
use Rattle.cell_types.specs.Layout.{Layout}
use Rattle.cell_types.specs.declared.refusal.Refusal.{Refusal}
use Rattle.volume_meaning.specs.Documents.{AreDocuments, Document}
use Rattle.tamper_rules.specs.Settling.{Held}
use Rattle.worm_device.specs.State.{DeviceState, IsDevice}
use Rattle.host_ports.specs.Sinks.{SinkState}
use Rattle.recovery_engine.specs.Settling.{Settles}
use Rattle.recovery_engine.specs.declared.settling.Ready.{Ready}
use Rattle.ingest_engine.specs.Formats.{Formats}
use Rattle.record_query.specs.Finding.{Searches}
use Rattle.record_query.specs.LookingUp.{LooksUp}
use Rattle.record_query.specs.declared.found.Found.{Found}
use Rattle.record_query.specs.declared.found.Match.{Match}
use Rattle.volume_audit.specs.Audits.{Audits}
use Rattle.volume_audit.specs.declared.report.AuditReport.{AuditReport}
use Rattle.command_laws.specs.Begins.{BeginsSteady}
use Rattle.command_laws.specs.Telling.{AreMatchesOf, LeavesHeld}

-- every command but an ingest, whatever it answers
pub record EachLeavesHeld (old new : DeviceState) : Type 0 where
  pub formats : (g : Layout) (result : Result Unit Refusal) → g.cells ≡ old.cells → Formats g old new result
      → LeavesHeld old new
  pub settles : (result : Result Ready Refusal) → Settles old new result → LeavesHeld old new
  pub searches : (terms : List (List ℕ)) (result : Result (Vec Match) Refusal) → Searches terms old new result
      → LeavesHeld old new
  pub looks : (id : List ℕ) (from to : SinkState) (result : Result Found Refusal) → LooksUp id old new from to result
      → LeavesHeld old new
  pub audits : (result : Result AuditReport Refusal) → Audits old new result → LeavesHeld old new

-- each leaves the documents that were held, and a steady device
abbrev pub CommandsLeaveHeld : Type 0
CommandsLeaveHeld =
    (old new : DeviceState) → IsDevice old → IsDevice new → BeginsSteady old new → EachLeavesHeld old new

-- a find tells of just the documents that were held, and they stand behind it
abbrev pub FindsTellHeld : Type 0
FindsTellHeld =
    (terms : List (List ℕ)) (old new : DeviceState) (matches : Vec Match) (documents : List Document) → IsDevice old
    → IsDevice new → BeginsSteady old new → Searches terms old new (Ok matches) → Held old.cells old.image documents
    → AreDocuments new.cells new.image documents × AreMatchesOf new terms documents matches.items
