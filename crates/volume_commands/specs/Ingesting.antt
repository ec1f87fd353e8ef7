-- The command `ingest`: it stores the body that the source gives in the first free slot, with a stamp where documents
-- have one, and acknowledges it.
use Rattle.std.specs.Prelude.{◌≡◌, ℕ, List, codes, Option, Some, Result, Ok, Err, ⊤}
use Rattle.cell_types.specs.Layout.{Layout}
use Rattle.cell_types.specs.declared.refusal.Refusal.{Refusal}
use Rattle.cell_types.specs.declared.refusal.Refusal.TheVariants.{BadIdentifier, DeviceFault, SinkFault}
use Rattle.host_ports.specs.Sources.{Gives, IsAtEnd}
use Rattle.volume_meaning.specs.Documents.{IsBody, IsIdentifier}
use Rattle.volume_meaning.specs.declared.limits.TheConstants.{MAX_BODY_BYTES}
use Rattle.worm_device.specs.Counts.{IsStill}
use Rattle.ingest_engine.specs.Ingesting.{Ingests}
use Rattle.command_laws.specs.Begins.{BeginsSteady}
use Rattle.command_laws.specs.Completing.{HasPlaceFor}
use Rattle.command_line.specs.Lines.{slot_line}
use Rattle.volume_commands.specs.Ports.{Ports, KeepsSink, Tells}
use Rattle.volume_commands.specs.Taking.{BodyFails, refusal_of_body_fault}
use Rattle.volume_commands.specs.declared.body.BodyFault.{BodyFault}

-- the text that acknowledges a document in this slot
abbrev pub acknowledgement : ℕ → List ℕ
acknowledgement slot = slot_line (codes "acknowledged ") slot (codes "\n")

-- What the command does, by how far it comes.
pub data DoesIngest (id : List ℕ) (stamp : Option ℕ) (old new : Ports) (result : Result Unit Refusal) : Type 0 where
  -- the word is no identifier, and nothing is done
  misnamed : (IsIdentifier id → ⊥) → result ≡ Err BadIdentifier → new ≡ old → DoesIngest id stamp old new result
  -- no body is taken, and nothing is done with the device and the sink
  untaken : (given : List ℕ) (fault : BodyFault) → IsIdentifier id → Gives old.source.left new.source.left given
      → BodyFails MAX_BODY_BYTES given old.source new.source fault → result ≡ Err (refusal_of_body_fault fault)
      → new.device ≡ old.device → KeepsSink old new → DoesIngest id stamp old new result
  -- The body is what the source gives up to its end. It is stored with the stamp, or that is ended, as the engine says,
  -- and its answer is told.
  taken : (body : List ℕ) (answer : Result ℕ Refusal) → IsIdentifier id → IsBody body
      → Gives old.source.left new.source.left body → IsAtEnd new.source.left
      → Ingests id stamp body old.device new.device answer → Tells acknowledgement answer old new result
      → DoesIngest id stamp old new result

-- the document is stored: it was acknowledged, or the sink failed then
abbrev pub WasStored : Result Unit Refusal → Type 0
WasStored (Ok _) = ⊤
WasStored (Err SinkFault) = ⊤
WasStored (Err refusal) = ⊥

-- it is refused, with no fault of the device
abbrev pub HasRefused : Result Unit Refusal → Type 0
HasRefused (Ok _) = ⊥
HasRefused (Err SinkFault) = ⊥
HasRefused (Err DeviceFault) = ⊥
HasRefused (Err refusal) = ⊤

-- All is as the command wants it. Whatever a crash leaves of the device at entry is blank or sound, and what stands is
-- a volume that has a place for the document, with this stamp exactly where its documents have one. The source holds
-- the body. Nobody else writes, and no call fails.
pub record IsReadyToIngest (id : List ℕ) (stamp : Option ℕ) (body : List ℕ) (g : Layout) (slot : ℕ) (old new : Ports)
    : Type 0 where
  pub identifier : IsIdentifier id
  pub is_body : IsBody body
  pub source : old.source.left ≡ Some body
  pub begins : BeginsSteady old.device new.device
  pub place : HasPlaceFor id stamp body g slot old.device
  pub no_device_fault : IsStill old.device.faults new.device.faults
  pub no_source_fault : IsStill old.source.faults new.source.faults
  pub no_sink_fault : IsStill old.sink.faults new.sink.faults
