-- Which refusals no event of a script meets.
use Rattle.std.specs.Prelude.{⊤}
use Rattle.cell_types.specs.declared.refusal.Refusal.{Refusal}
use Rattle.cell_types.specs.declared.refusal.Refusal.TheVariants as refusals
use Rattle.worm_memory.specs.Memory.{Memory}
use Rattle.script_events.specs.declared.event.Event.{Event}
use Rattle.script_replies.specs.declared.reply.Reply.TheVariants as reply
use Rattle.hostile_replay.specs.Turns.{Turns}

-- It is of words, of a source or of a sink: an event's words were checked as the script was read, and no source or sink
-- of others is handed in.
abbrev pub IsOfWords : Refusal → Type 0
IsOfWords refusals.Usage = ⊤
IsOfWords refusals.BadIdentifier = ⊤
IsOfWords (refusals.BadWord i) = ⊤
IsOfWords refusals.TooLong = ⊤
IsOfWords (refusals.BadScript i) = ⊤
IsOfWords refusals.SourceFault = ⊤
IsOfWords refusals.SinkFault = ⊤
IsOfWords refusal = ⊥

-- no event is refused so
abbrev pub NoneIsOfWords : Type 0
NoneIsOfWords =
    (e : Event) (refusal : Refusal) (old new : Memory) → Turns e (reply.Refused refusal) old new → IsOfWords refusal → ⊥
