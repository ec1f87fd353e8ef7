-- Laws of ingests on steady devices.
use Rattle.std.specs.Prelude.{◌≢◌, ℕ, List, Option, Result, Ok, Err, IsTrue}
use Rattle.cell_types.specs.declared.refusal.Evidence.{Evidence}
use Rattle.cell_types.specs.declared.refusal.Refusal.{Refusal}
use Rattle.cell_types.specs.declared.refusal.Refusal.TheVariants.{DeviceFault, Tampered}
use Rattle.volume_meaning.specs.Documents.{Document}
use Rattle.tamper_rules.specs.Settling.{Held}
use Rattle.worm_device.specs.Counts.{IsStill}
use Rattle.worm_device.specs.State.{DeviceState, IsDevice}
use Rattle.ingest_engine.specs.Ingesting.{Ingests}
use Rattle.crash_laws.specs.SettlingSteadiness.{IsSteady}
use Rattle.crash_laws.specs.Steadiness.{HasOneMore, StaysSteadyBy}

-- an ingest leaves whole volumes at every moment, and a steady device, whatever it answers
abbrev pub IngestStaysSteady : Type 0
IngestStaysSteady =
    (id : List ℕ) (stamp : Option ℕ) (body : List ℕ) (old new : DeviceState) (result : Result ℕ Refusal) → IsDevice old
    → IsDevice new
    → IsTrue old.tells → Ingests id stamp body old new result → IsStill old.foreign_writes new.foreign_writes
    → IsSteady old
    → StaysSteadyBy id stamp body old new

-- one that ends well adds its document, with its stamp, and no other
abbrev pub IngestAddsOne : Type 0
IngestAddsOne =
    (id : List ℕ) (stamp : Option ℕ) (body : List ℕ) (old new : DeviceState) (n : ℕ) → IsDevice old → IsDevice new
    → IsTrue old.tells
    → Ingests id stamp body old new (Ok n) → IsStill old.foreign_writes new.foreign_writes → IsSteady old
    → HasOneMore id stamp body n old new

-- one that is refused, with no fault of the device, adds none and loses none
abbrev pub RefusedIngestKeeps : Type 0
RefusedIngestKeeps =
    (id : List ℕ) (stamp : Option ℕ) (body : List ℕ) (old new : DeviceState) (refusal : Refusal)
    (documents : List Document)
    → IsDevice old → IsDevice new → IsTrue old.tells → Ingests id stamp body old new (Err refusal)
    → refusal ≢ DeviceFault
    → IsStill old.foreign_writes new.foreign_writes → IsSteady old → Held old.cells old.image documents
    → Held new.cells new.image documents

-- from a steady state an ingest names no tampering
abbrev pub IngestNamesNone : Type 0
IngestNamesNone =
    (id : List ℕ) (stamp : Option ℕ) (body : List ℕ) (old new : DeviceState) (e : Evidence) → IsDevice old
    → IsDevice new → IsTrue old.tells
    → Ingests id stamp body old new (Err (Tampered e)) → IsStill old.foreign_writes new.foreign_writes → IsSteady old
    → ⊥
