-- A world: events, their replies, and the states of the device between them.
use Rattle.std.specs.Prelude.{◌≡◌, List, [], ◌∷◌, ◌++◌, map}
use Rattle.volume_meaning.specs.Documents.{Document}
use Rattle.worm_device.specs.State.{IsDevice}
use Rattle.worm_memory.specs.Memory.{Memory, device_of}
use Rattle.ingest_engine.specs.Ingesting.{document_in}
use Rattle.script_events.specs.declared.event.Event.{Event}
use Rattle.script_events.specs.declared.event.Event.TheVariants as event
use Rattle.script_replies.specs.declared.reply.Reply.{Reply}
use Rattle.script_replies.specs.declared.reply.Reply.TheVariants as reply
use Rattle.hostile_replay.specs.Turns.{Turns}

-- an event, its reply, and what the device told before and after it
pub record Turn : Type 0 where
  pub event : Event
  pub reply : Reply
  pub old : Memory
  pub new : Memory

-- These turns follow one another, from this device to that one: each begins where the one before ended, and does what
-- its event says.
abbrev pub AreInTurn : Memory → List Turn → Memory → Type 0
AreInTurn from [] to = to ≡ from
AreInTurn from (t ∷ turns) to =
    (t.old ≡ from) × IsDevice (device_of t.new) × Turns t.event t.reply t.old t.new × AreInTurn t.new turns to

-- a world: these events, in this order, were answered so, on a device that was this one and has become that one
pub record IsWorld (events : List Event) (replies : List Reply) (from to : Memory) : Type 0 where
  pub turns : List Turn
  pub events_are : events ≡ map (λ (t : Turn). t.event) turns
  pub replies_are : replies ≡ map (λ (t : Turn). t.reply) turns
  pub in_turn : AreInTurn from turns to

-- the document that an event acknowledged, with the identifier and the body that it was given, in the slot of the reply
abbrev pub acknowledged_by : Event → Reply → List Document
acknowledged_by (event.Ingest id stamp body plan) (reply.Acknowledged n) = document_in n id body ∷ []
acknowledged_by e r = []

-- the documents that were acknowledged, in order
abbrev pub acknowledged : List Turn → List Document
acknowledged [] = []
acknowledged (t ∷ turns) = acknowledged_by t.event t.reply ++ acknowledged turns
