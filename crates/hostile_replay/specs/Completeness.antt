-- When a command of a world has to be done: from a steady device, where nobody else writes and no call fails. So a
-- replay that refuses what it could do is none.
use Rattle.std.specs.Prelude.{◌≡◌, ℕ, None, ⊤}
use Rattle.cell_types.specs.Layout.{IsLayout, Layout}
use Rattle.cell_types.specs.declared.refusal.Refusal.TheVariants as refusals
use Rattle.volume_meaning.specs.Volumes.{IsVolume}
use Rattle.worm_device.specs.Counts.{IsStill}
use Rattle.worm_device.specs.State.{DeviceState, IsDevice}
use Rattle.worm_memory.specs.Memory.{Memory, device_of}
use Rattle.crash_laws.specs.SettlingSteadiness.{IsSteady}
use Rattle.command_laws.specs.Completing.{HasPlaceFor}
use Rattle.script_events.specs.declared.event.Event.{Event}
use Rattle.script_events.specs.declared.event.Event.TheVariants as event
use Rattle.script_replies.specs.declared.reply.Reply.{Reply}
use Rattle.script_replies.specs.declared.reply.Reply.TheVariants as reply
use Rattle.hostile_replay.specs.Steadily.{begun_by}
use Rattle.hostile_replay.specs.Turns.{Turns, event_layout}

-- the answers of commands that are done, or for which no memory was to be had

abbrev pub IsFormattedReply : Reply → Type 0
IsFormattedReply reply.Formatted = ⊤
IsFormattedReply r = ⊥

abbrev pub IsAcknowledgedReply : Reply → Type 0
IsAcknowledgedReply (reply.Acknowledged n) = ⊤
IsAcknowledgedReply (reply.Refused refusals.NoMemory) = ⊤
IsAcknowledgedReply r = ⊥

abbrev pub IsFoundReply : Reply → Type 0
IsFoundReply (reply.Found matches) = ⊤
IsFoundReply (reply.Refused refusals.NoMemory) = ⊤
IsFoundReply r = ⊥

abbrev pub IsLookedUpReply : Reply → Type 0
IsLookedUpReply (reply.Body slot body) = ⊤
IsLookedUpReply (reply.Refused refusals.Absent) = ⊤
IsLookedUpReply (reply.Refused refusals.NoMemory) = ⊤
IsLookedUpReply r = ⊥

abbrev pub IsSoundReply : Reply → Type 0
IsSoundReply (reply.Sound report) = ⊤
IsSoundReply (reply.Refused refusals.NoMemory) = ⊤
IsSoundReply r = ⊥

abbrev pub IsSettledReply : Reply → Type 0
IsSettledReply (reply.Settled step) = ⊤
IsSettledReply r = ⊥

-- What each event is answered where it can be done: a format on a blank device with a layout that may be, an ingest
-- where its document has a place, the others on a volume.
abbrev pub IsDoneWherePossible : Event → Reply → DeviceState → Type 0
IsDoneWherePossible (event.Format slots lists version plan) r old =
    IsLayout (event_layout slots lists version old.cells) → ((cell : ℕ) → old.image cell ≡ None) → IsFormattedReply r
IsDoneWherePossible (event.Ingest id stamp body plan) r old =
    (g : Layout) (slot : ℕ) → HasPlaceFor id stamp body g slot old → IsAcknowledgedReply r
IsDoneWherePossible (event.Find terms plan) r old = (g : Layout) → IsVolume old.cells old.image g → IsFoundReply r
IsDoneWherePossible (event.Lookup id plan) r old = (g : Layout) → IsVolume old.cells old.image g → IsLookedUpReply r
IsDoneWherePossible (event.Audit plan) r old = (g : Layout) → IsVolume old.cells old.image g → IsSoundReply r
IsDoneWherePossible (event.Recover plan) r old = (g : Layout) → IsVolume old.cells old.image g → IsSettledReply r
IsDoneWherePossible e r old = ⊤

-- each command that can be done is done
abbrev pub CommandsComplete : Type 0
CommandsComplete =
    (e : Event) (r : Reply) (old new : Memory) → IsDevice (device_of (begun_by e old)) → IsDevice (device_of new)
    → IsSteady (device_of (begun_by e old)) → IsStill old.foreign_writes new.foreign_writes
    → IsStill old.faults new.faults → Turns e r old new → IsDoneWherePossible e r (device_of (begun_by e old))
