-- A script by which somebody else abandons a slot while its ingest runs:
--
--     event                                                              reply
--     format 8 2                                                         formatted
--     ingest a `hello world`, foreign: before a step, 04 .. 05 in 5      not acknowledged
--
-- On a device of 1,000 cells the ingest commits slot 0 in cell 5, in its ninth step at the earliest: before that it makes
-- the sync with which it settles, which has nothing to make sure here, writes cells 4 and 580 to 583, and makes two syncs
-- more. So a moment up to the ninth step comes before the commit.
use Rattle.std.specs.Prelude.{◌≡◌, ◌≤◌, ℕ, List, [], ◌∷◌, None, codes}
use Rattle.worm_device.specs.State.{IsDevice}
use Rattle.worm_memory.specs.Memory.{Memory, device_of}
use Rattle.worm_memory.specs.declared.moment.Moment.{Moment}
use Rattle.worm_memory.specs.declared.moment.Moment.TheVariants.{Step, Call}
use Rattle.script_events.specs.declared.event.Event.{Event}
use Rattle.script_events.specs.declared.event.Event.TheVariants as event
use Rattle.script_events.specs.declared.event.Schedule.{Schedule}
use Rattle.script_events.specs.declared.event.Timed.{Timed}
use Rattle.script_replies.specs.declared.reply.Reply.{Reply}
use Rattle.script_replies.specs.declared.reply.Reply.TheVariants as reply
use Rattle.hostile_replay.specs.Headline.{IsNew}
use Rattle.hostile_replay.specs.Worlds.{IsWorld}

-- these foreign writes alone
abbrev pub foreign_plan : List Timed → Schedule
foreign_plan foreign = record { stop = None; fail = []; foreign = foreign }

-- the abandon cell of slot 0, in cell 5, before this moment
abbrev pub abandoned_before : Moment → Timed
abandoned_before moment = record {
  before = moment;
  at = 5;
  cell =
      0x04 ∷ 0x00 ∷ 0x00 ∷ 0x00 ∷ 0x00 ∷ 0x00 ∷ 0x00 ∷ 0x00 ∷ 0x00 ∷ 0x00 ∷ 0x00 ∷ 0x00
      ∷ 0x00 ∷ 0x00 ∷ 0x00 ∷ 0x05 ∷ [];
}

-- a volume of 8 slots and 2 lists, of the first version
abbrev pub format_event : Event
format_event = event.Format 8 2 1 (foreign_plan [])

-- the document of the small volume, while somebody else abandons its slot
abbrev pub ingest_event : Moment → Event
ingest_event moment =
    event.Ingest (codes "a") None (codes "hello world") (foreign_plan (abandoned_before moment ∷ []))

-- the moment has one of the first so many numbers
abbrev pub IsAmongFirst : ℕ → Moment → Type 0
IsAmongFirst most (Step number) = (1 ≤ number) × (number ≤ most)
IsAmongFirst most (Call number) = (1 ≤ number) × (number ≤ most)

-- The ingest is acknowledged in no world of a script that begins so, on a new device of 1,000 cells, where the moment is
-- one of the first nine.
abbrev pub AbandonedIsNotAcknowledged : Type 0
AbandonedIsNotAcknowledged =
    (moment : Moment) (events : List Event) (first : Reply) (replies : List Reply) (from to : Memory)
    → IsDevice (device_of from) → IsNew from → from.faults ≡ 0 → from.cells ≡ 1000 → IsAmongFirst 9 moment
    → IsWorld (format_event ∷ ingest_event moment ∷ events) (first ∷ reply.Acknowledged 0 ∷ replies) from to → ⊥
