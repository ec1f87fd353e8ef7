-- What an event does to the device, and how it is answered.
use Rattle.std.specs.Prelude.{◌≡◌, ◌⊎◌, ℕ, List, [], length, true, Option, None, Some, Ok, Err}
use Rattle.std.specs.Global.{Vec}
use Rattle.cell_types.specs.Layout.{Layout}
use Rattle.cell_types.specs.declared.refusal.Refusal.{Refusal}
use Rattle.cell_types.specs.declared.refusal.Refusal.TheVariants as refusals
use Rattle.worm_device.specs.Calls.{Called}
use Rattle.worm_device.specs.State.{DeviceState}
use Rattle.worm_memory.specs.Device.{ForeignWrites}
use Rattle.worm_memory.specs.Losses.{kept_count, kept_image}
use Rattle.worm_memory.specs.Memory.{KeepsPlan, Memory, device_of, with_begin, with_foreign, with_hand}
use Rattle.worm_memory.specs.Outcomes.{with_crash}
use Rattle.worm_memory.specs.Unsure.{unsure_of}
use Rattle.worm_memory.specs.declared.losses.Crash.{Crash}
use Rattle.host_ports.specs.Sinks.{SinkState}
use Rattle.recovery_engine.specs.Settling.{Settles}
use Rattle.recovery_engine.specs.declared.settling.Ready.{Ready}
use Rattle.ingest_engine.specs.Formats.{Formats}
use Rattle.ingest_engine.specs.Ingesting.{Ingests}
use Rattle.record_query.specs.Finding.{Searches}
use Rattle.record_query.specs.LookingUp.{LooksUp}
use Rattle.record_query.specs.declared.found.Found.{Found}
use Rattle.record_query.specs.declared.found.Match.{Match}
use Rattle.volume_audit.specs.Audits.{Audits}
use Rattle.script_events.specs.declared.event.Event.{Event}
use Rattle.script_events.specs.declared.event.Event.TheVariants as event
use Rattle.script_events.specs.declared.event.Schedule.{Schedule}
use Rattle.script_replies.specs.declared.reply.Reply.{Reply}
use Rattle.script_replies.specs.declared.reply.Reply.TheVariants as reply
use Rattle.script_replies.specs.Beginnings.{begun_with, plan_by}

-- the layout that a format makes on a device of so many cells
abbrev pub event_layout : ℕ → ℕ → ℕ → ℕ → Layout
event_layout slots lists version cells = record { slots = slots; lists = lists; cells = cells; version = version }

-- how each command is answered, by what its engine did between two states of the device

abbrev pub FormatAnswers : ℕ → ℕ → ℕ → DeviceState → DeviceState → Reply → Type 0
FormatAnswers slots lists version old new reply.Formatted =
    Formats (event_layout slots lists version old.cells) old new (Ok tt)
FormatAnswers slots lists version old new (reply.Refused refusal) =
    Formats (event_layout slots lists version old.cells) old new (Err refusal)
FormatAnswers slots lists version old new other = ⊥

abbrev pub IngestAnswers : List ℕ → Option ℕ → List ℕ → DeviceState → DeviceState → Reply → Type 0
IngestAnswers id stamp body old new (reply.Acknowledged n) = Ingests id stamp body old new (Ok n)
IngestAnswers id stamp body old new (reply.Refused refusal) = Ingests id stamp body old new (Err refusal)
IngestAnswers id stamp body old new other = ⊥

-- the search answered these matches
pub record FindAnswered (terms : List (List ℕ)) (old new : DeviceState) (matches : List Match) : Type 0 where
  pub found : Vec Match
  pub searches : Searches terms old new (Ok found)
  pub matches_are : matches ≡ found.items

abbrev pub FindAnswers : List (List ℕ) → DeviceState → DeviceState → Reply → Type 0
FindAnswers terms old new (reply.Found matches) = FindAnswered terms old new matches
FindAnswers terms old new (reply.Refused refusal) = Searches terms old new (Err refusal)
FindAnswers terms old new other = ⊥

-- the body went into a sink of memory that held nothing
pub record BodyAnswered (id : List ℕ) (old new : DeviceState) (slot : ℕ) (body : List ℕ) : Type 0 where
  pub from : SinkState
  pub to : SinkState
  pub found : Found
  pub empty : from.held ≡ Some []
  pub held : to.held ≡ Some body
  pub looks : LooksUp id old new from to (Ok found)
  pub slot_is : slot ≡ found.slot

-- the look-up was refused; that the sink had no room is want of memory
pub record LookUpRefused (id : List ℕ) (old new : DeviceState) (refusal : Refusal) : Type 0 where
  pub from : SinkState
  pub to : SinkState
  pub refused : Refusal
  pub looks : LooksUp id old new from to (Err refused)
  pub told : ((refusal ≡ refused) × (refused ≡ refusals.SinkFault → ⊥))
      ⊎ ((refused ≡ refusals.SinkFault) × (refusal ≡ refusals.NoMemory))

abbrev pub LookUpAnswers : List ℕ → DeviceState → DeviceState → Reply → Type 0
LookUpAnswers id old new (reply.Body slot body) = BodyAnswered id old new slot body
LookUpAnswers id old new (reply.Refused refusal) = LookUpRefused id old new refusal
LookUpAnswers id old new other = ⊥

abbrev pub AuditAnswers : DeviceState → DeviceState → Reply → Type 0
AuditAnswers old new (reply.Sound report) = Audits old new (Ok report)
AuditAnswers old new (reply.Refused refusal) = Audits old new (Err refusal)
AuditAnswers old new other = ⊥

abbrev pub RecoverAnswers : DeviceState → DeviceState → Reply → Type 0
RecoverAnswers old new (reply.Settled step) = (r : Ready) × Settles old new (Ok r) × (step ≡ r.step)
RecoverAnswers old new (reply.Refused refusal) = Settles old new (Err refusal)
RecoverAnswers old new other = ⊥

-- The command went by its plan. What was planned as it began stayed planned; and it was a row of calls, in each of
-- which just those planned foreign writes were made whose moment named the call and whose cell was blank then, and
-- which failed exactly where the plan has it fail.
pub record GoesByPlan (plan : Schedule) (old new : Memory) : Type 0 where
  pub marks : new.marks ≡ (begun_with plan old).marks
  pub plan_is : new.plan ≡ plan_by plan
  pub keeps : KeepsPlan new

-- A command, from its beginning on: its engine did what it answers, and it went by its plan.
pub record CarriesOut (plan : Schedule) (old new : Memory) (Answers : DeviceState → DeviceState → Type 0) : Type 0 where
  pub answers : Answers (device_of (begun_with plan old)) (device_of new)
  pub called : Called (device_of (begun_with plan old)) (device_of new)
  pub by_plan : GoesByPlan plan old new

-- A foreign write is done where its cell was blank, and keeps what stands and what is sure; else nothing is done.
abbrev pub ForeignAnswers : ℕ → List ℕ → Memory → Memory → Reply → Type 0
ForeignAnswers at cell old new reply.ForeignDone =
    ((device_of old).image at ≡ None) × (new ≡ with_foreign (with_hand (with_begin true old)) at cell)
    × ForeignWrites (device_of (with_begin true old)) (device_of new)
ForeignAnswers at cell old new (reply.ForeignTaken found) =
    ((device_of old).image at ≡ Some found) × (new ≡ with_begin true old)
ForeignAnswers at cell old new other = ⊥

-- a crash leaves what is sure and what is kept, all of it sure, and tells how many cells it could have taken and left
pub record IsCrash (keep : List ℕ) (old new : Memory) (crash : Crash) : Type 0 where
  pub recorded : new ≡ with_crash (with_begin true old) keep
  pub image : (cell : ℕ) → (device_of new).image cell
      ≡ kept_image keep (device_of old).image (device_of old).sure cell
  pub sure : (cell : ℕ) → (device_of new).sure cell ≡ (device_of new).image cell
  pub unsure_is : crash.unsure ≡ length (unsure_of old.changes)
  pub kept_is : crash.kept ≡ kept_count keep (unsure_of old.changes)

abbrev pub CrashAnswers : List ℕ → Memory → Memory → Reply → Type 0
CrashAnswers keep old new (reply.Crashed crash) = IsCrash keep old new crash
CrashAnswers keep old new other = ⊥

-- what an event does, and how it is answered
abbrev pub Turns : Event → Reply → Memory → Memory → Type 0
Turns (event.Format slots lists version plan) r old new =
    CarriesOut plan old new (λ s t. FormatAnswers slots lists version s t r)
Turns (event.Ingest id stamp body plan) r old new =
    CarriesOut plan old new (λ s t. IngestAnswers id stamp body s t r)
Turns (event.Find terms plan) r old new = CarriesOut plan old new (λ s t. FindAnswers terms s t r)
Turns (event.Lookup id plan) r old new = CarriesOut plan old new (λ s t. LookUpAnswers id s t r)
Turns (event.Audit plan) r old new = CarriesOut plan old new (λ s t. AuditAnswers s t r)
Turns (event.Recover plan) r old new = CarriesOut plan old new (λ s t. RecoverAnswers s t r)
Turns (event.Foreign at cell) r old new = ForeignAnswers at cell old new r
Turns (event.Crash keep) r old new = CrashAnswers keep old new r
