-- Worlds of which the events alone tell that nobody else writes, or that nothing befalls them: no foreign write is
-- planned and none is made by hand; or each event is a command and its plan is empty. From a new device on, the count
-- of foreign writes then stays 0, and that of faults too: so what is said elsewhere of a world that nobody else wrote
-- in, and of commands in which no call fails, holds of each turn of such a world.
use Rattle.std.specs.Prelude.{◌≡◌, List, [], ◌∷◌, ◌++◌, map, None, ⊤}
use Rattle.std.specs.List.{All}
use Rattle.tamper_rules.specs.Settling.{Held, Settled}
use Rattle.worm_device.specs.Counts.{Rose}
use Rattle.worm_device.specs.State.{IsDevice}
use Rattle.worm_memory.specs.Memory.{Memory, device_of, mark_of}
use Rattle.crash_laws.specs.SettlingSteadiness.{IsSteady}
use Rattle.script_events.specs.declared.event.Event.{Event}
use Rattle.script_events.specs.declared.event.Event.TheVariants as event
use Rattle.script_events.specs.declared.event.Schedule.{Schedule}
use Rattle.script_replies.specs.declared.reply.Reply.{Reply}
use Rattle.script_replies.specs.declared.reply.Reply.TheVariants as reply
use Rattle.hostile_replay.specs.Completeness.{IsDoneWherePossible}
use Rattle.hostile_replay.specs.Headline.{HoldsIngests, IsNew, IsUndisturbed}
use Rattle.hostile_replay.specs.Steadily.{IsWholeTurn, begun_by}
use Rattle.hostile_replay.specs.Worlds.{AreInTurn, Turn, acknowledged}

-- nobody else writes in the event: none is planned to, and it is no foreign write itself
abbrev pub IsUnshared : Event → Type 0
IsUnshared (event.Format slots lists version plan) = plan.foreign ≡ []
IsUnshared (event.Ingest id stamp body plan) = plan.foreign ≡ []
IsUnshared (event.Find terms plan) = plan.foreign ≡ []
IsUnshared (event.Lookup id plan) = plan.foreign ≡ []
IsUnshared (event.Audit plan) = plan.foreign ≡ []
IsUnshared (event.Recover plan) = plan.foreign ≡ []
IsUnshared (event.Foreign at cell) = ⊥
IsUnshared (event.Crash keep) = ⊤

-- nothing is planned: it does not stop, no call fails, and nobody else writes
pub record PlansNothing (plan : Schedule) : Type 0 where
  pub stop : plan.stop ≡ None
  pub fail : plan.fail ≡ []
  pub foreign : plan.foreign ≡ []

-- nothing befalls the event: it is a command, and nothing is planned for it
abbrev pub IsPlain : Event → Type 0
IsPlain (event.Format slots lists version plan) = PlansNothing plan
IsPlain (event.Ingest id stamp body plan) = PlansNothing plan
IsPlain (event.Find terms plan) = PlansNothing plan
IsPlain (event.Lookup id plan) = PlansNothing plan
IsPlain (event.Audit plan) = PlansNothing plan
IsPlain (event.Recover plan) = PlansNothing plan
IsPlain (event.Foreign at cell) = ⊥
IsPlain (event.Crash keep) = ⊥

-- the events of these turns
abbrev pub events_of : List Turn → List Event
events_of turns = map (λ (t : Turn). t.event) turns

-- What turns leave in which nobody else wrote: the count says so; whatever a crash would leave now is blank or sound;
-- and what is held comes from the ingests.
pub record IsLeftAlone (turns : List Turn) (to : Memory) : Type 0 where
  pub undisturbed : IsUndisturbed to
  pub steady : IsSteady (device_of to)
  pub held : HoldsIngests turns (device_of to)

-- from a new device on, events in which nobody else writes leave it so
abbrev pub UnsharedIsAlone : Type 0
UnsharedIsAlone =
    (from : Memory) (turns : List Turn) (to : Memory) → IsDevice (device_of from) → IsNew from
    → AreInTurn from turns to → All IsUnshared (events_of turns) → IsLeftAlone turns to

-- What turns leave that nothing befell: nobody else wrote and no call failed; whatever a crash would leave now is blank
-- or sound; and what is held are just the documents that were acknowledged, in order.
pub record IsLeftPlain (turns : List Turn) (to : Memory) : Type 0 where
  pub undisturbed : IsUndisturbed to
  pub unfailed : to.faults ≡ 0
  pub steady : IsSteady (device_of to)
  pub held : Held to.cells (device_of to).image (acknowledged turns)

-- the event was done
abbrev pub IsDoneReply : Reply → Type 0
IsDoneReply (reply.Refused refusal) = ⊥
IsDoneReply r = ⊤

-- A command in a world that nothing befell: it leaves and tells what it should, and it is done wherever it can be.
-- Where it is done it has read the device, and what stands behind it is a settled volume.
pub record IsPlainTurn (t : Turn) : Type 0 where
  pub device : IsDevice (device_of (begun_by t.event t.old))
  pub device_new : IsDevice (device_of t.new)
  pub steady : IsSteady (device_of (begun_by t.event t.old))
  pub whole : IsWholeTurn t.event t.reply t.old t.new
  pub done : IsDoneWherePossible t.event t.reply (device_of (begun_by t.event t.old))
  pub read : IsDoneReply t.reply → Rose t.old.reads t.new.reads
  pub settled : IsDoneReply t.reply → Settled t.new.cells (device_of t.new).image

-- From a new device without faults on, events that nothing befalls leave it so, and each of them is done so.
pub record PlainIsDone : Type 0 where
  pub left : (from : Memory) (turns : List Turn) (to : Memory) → IsDevice (device_of from) → IsNew from
      → from.faults ≡ 0 → AreInTurn from turns to → All IsPlain (events_of turns) → IsLeftPlain turns to
  pub turn : (from to : Memory) (before after : List Turn) (t : Turn) → IsDevice (device_of from) → IsNew from
      → from.faults ≡ 0 → AreInTurn from (before ++ t ∷ after) to → All IsPlain (events_of (before ++ t ∷ after))
      → IsPlainTurn t

-- Each turn has left one mark, which says how the device stood as it began.
abbrev pub TurnsAreMarked : Type 0
TurnsAreMarked =
    (from : Memory) (turns : List Turn) (to : Memory) → AreInTurn from turns to
    → to.marks ≡ from.marks ++ map (λ (t : Turn). mark_of t.old) turns
