-- An event from a steady device on, where nobody else writes: which documents stand behind it, and that a query tells
-- of just those.
use Rattle.std.specs.Prelude.{◌≡◌, ℕ, List, Option, true, ⊤}
use Rattle.cell_types.specs.declared.refusal.Evidence.{Evidence}
use Rattle.cell_types.specs.declared.refusal.Refusal.TheVariants as refusals
use Rattle.volume_meaning.specs.Documents.{AreDocuments, Document}
use Rattle.tamper_rules.specs.Settling.{Held}
use Rattle.worm_device.specs.Counts.{IsStill}
use Rattle.worm_device.specs.State.{DeviceState, IsDevice}
use Rattle.worm_memory.specs.Memory.{Memory, device_of, with_begin}
use Rattle.crash_laws.specs.SettlingSteadiness.{IsSteady}
use Rattle.crash_laws.specs.Steadiness.{HasOneMore, StaysSteadyBy}
use Rattle.command_laws.specs.Telling.{LeavesHeld}
use Rattle.script_events.specs.declared.event.Event.{Event}
use Rattle.script_events.specs.declared.event.Event.TheVariants as event
use Rattle.script_replies.specs.declared.reply.Reply.{Reply}
use Rattle.script_replies.specs.declared.reply.Reply.TheVariants as reply
use Rattle.script_replies.specs.Beginnings.{begun_with}
use Rattle.hostile_replay.specs.Headline.{IsDoneQuery, TellsExactly}
use Rattle.hostile_replay.specs.Turns.{Turns}

-- it was refused, with no fault of the device
abbrev pub IsTurnedDown : Reply → Type 0
IsTurnedDown (reply.Refused refusals.DeviceFault) = ⊥
IsTurnedDown (reply.Refused refusal) = ⊤
IsTurnedDown r = ⊥

-- An ingest: where it is acknowledged its document stands behind the others, with its stamp, sure; where it is refused
-- with no fault of the device, just those that stood.
pub record LeavesIngest (id : List ℕ) (stamp : Option ℕ) (body : List ℕ) (r : Reply) (old new : DeviceState) : Type 0
  where
    pub stays : StaysSteadyBy id stamp body old new
    pub adds : (n : ℕ) → r ≡ reply.Acknowledged n → HasOneMore id stamp body n old new
    pub keeps : IsTurnedDown r → (documents : List Document) → Held old.cells old.image documents
        → Held new.cells new.image documents

-- what a command leaves
abbrev pub Leaves : Event → Reply → DeviceState → DeviceState → Type 0
Leaves (event.Ingest id stamp body plan) r old new = LeavesIngest id stamp body r old new
Leaves e r old new = LeavesHeld old new

-- a command, and no foreign write or crash
abbrev pub IsCommand : Event → Type 0
IsCommand (event.Foreign at cell) = ⊥
IsCommand (event.Crash keep) = ⊥
IsCommand e = ⊤

-- what a query that is done tells
abbrev pub TellsHeld : Event → Reply → DeviceState → DeviceState → Type 0
TellsHeld e r old new =
    IsDoneQuery e r → (documents : List Document) → Held old.cells old.image documents
    → AreDocuments new.cells new.image documents × TellsExactly documents e r new

-- the device as an event begins
abbrev pub begun_by : Event → Memory → Memory
begun_by (event.Format slots lists version plan) m = begun_with plan m
begun_by (event.Ingest id stamp body plan) m = begun_with plan m
begun_by (event.Find terms plan) m = begun_with plan m
begun_by (event.Lookup id plan) m = begun_with plan m
begun_by (event.Audit plan) m = begun_with plan m
begun_by (event.Recover plan) m = begun_with plan m
begun_by (event.Foreign at cell) m = with_begin true m
begun_by (event.Crash keep) m = with_begin true m

-- A command from a steady device on, where nobody else writes.
pub record IsWholeTurn (e : Event) (r : Reply) (old new : Memory) : Type 0 where
  pub leaves : Leaves e r (device_of (begun_by e old)) (device_of new)
  pub tells : TellsHeld e r (device_of old) (device_of new)
  pub no_alarm : (evidence : Evidence) → r ≡ reply.Refused (refusals.Tampered evidence) → ⊥

-- each command is whole
abbrev pub CommandsAreWhole : Type 0
CommandsAreWhole =
    (e : Event) (r : Reply) (old new : Memory) → IsDevice (device_of (begun_by e old)) → IsDevice (device_of new)
    → IsSteady (device_of (begun_by e old)) → IsStill old.foreign_writes new.foreign_writes → IsCommand e
    → Turns e r old new → IsWholeTurn e r old new
