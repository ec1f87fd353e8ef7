-- The command `replay`: it reads a script from the source, replays its events on a new device in memory, and puts out a
-- line for each. The device that it is handed is left alone.
use Rattle.std.specs.Prelude.{◌≡◌, ℕ, List, [], false, Some, Result, Ok, Err}
use Rattle.cell_types.specs.declared.refusal.Refusal.{Refusal}
use Rattle.cell_types.specs.declared.refusal.Refusal.TheVariants.{NoMemory}
use Rattle.host_ports.specs.Sources.{Gives, IsAtEnd}
use Rattle.volume_meaning.specs.Documents.{IsBody}
use Rattle.volume_meaning.specs.declared.limits.TheConstants.{MAX_BODY_BYTES}
use Rattle.worm_device.specs.Counts.{IsStill}
use Rattle.worm_memory.specs.Memory.{Memory}
use Rattle.worm_memory.specs.Plans.{no_plan}
use Rattle.script_events.specs.Scripts.{IsScript, ReadScriptEnds}
use Rattle.script_events.specs.declared.event.Script.{Script}
use Rattle.script_replies.specs.Lines.{replies_text}
use Rattle.script_replies.specs.declared.reply.Reply.{Reply}
use Rattle.hostile_replay.specs.Worlds.{IsWorld}
use Rattle.volume_commands.specs.Ports.{KeepsSink, Ports, TellsFromMemory}
use Rattle.volume_commands.specs.Taking.{BodyFails, refusal_of_body_fault}
use Rattle.volume_commands.specs.declared.body.BodyFault.{BodyFault}

-- a device of so many cells as it is made: each cell is blank, nothing is planned, and all counts are 0
abbrev pub new_memory : ℕ → Memory
new_memory cells = record {
  cells = cells;
  changes = [];
  made_in = [];
  marks = [];
  steps = 0;
  calls = 0;
  plan = no_plan;
  faults = 0;
  reads = 0;
  foreign_writes = 0;
  by_plan = false;
}

-- In a world that begins with a new device of the script's cells, its events were answered so, in order. What a world
-- promises holds of these replies.
pub record IsReplayOf (script : Script) (replies : List Reply) : Type 0 where
  pub left : Memory
  pub world : IsWorld script.events replies (new_memory script.cells) left

-- how a replay ends: with such replies, or for want of memory
abbrev pub ReplayEnds : Script → Result (List Reply) Refusal → Type 0
ReplayEnds script (Ok replies) = IsReplayOf script replies
ReplayEnds script (Err refusal) = refusal ≡ NoMemory

-- What the command does, by how far it comes. The script is what the source gives up to its end, of at most as many
-- bytes as a body.
pub data DoesReplay (old new : Ports) (result : Result Unit Refusal) : Type 0 where
  -- no text is taken
  untaken : (given : List ℕ) (fault : BodyFault) → Gives old.source.left new.source.left given
      → BodyFails MAX_BODY_BYTES given old.source new.source fault → result ≡ Err (refusal_of_body_fault fault)
      → new.device ≡ old.device → KeepsSink old new → DoesReplay old new result
  -- the text is no script, or no memory was to be had to read it
  unread : (text : List ℕ) (refusal : Refusal) → IsBody text → Gives old.source.left new.source.left text
      → IsAtEnd new.source.left → ReadScriptEnds text (Err refusal) → result ≡ Err refusal
      → new.device ≡ old.device → KeepsSink old new → DoesReplay old new result
  -- the script is replayed, or no memory was to be had for that; and the replies are told
  replayed : (text : List ℕ) (script : Script) (answer : Result (List Reply) Refusal) → IsBody text
      → Gives old.source.left new.source.left text → IsAtEnd new.source.left → IsScript text script
      → ReplayEnds script answer → new.device ≡ old.device → TellsFromMemory replies_text answer old new result
      → DoesReplay old new result

-- All is as the command wants it: the source holds a script, and no call fails.
pub record IsReadyToReplay (text : List ℕ) (script : Script) (old new : Ports) : Type 0 where
  pub is_body : IsBody text
  pub source : old.source.left ≡ Some text
  pub is_script : IsScript text script
  pub no_source_fault : IsStill old.source.faults new.source.faults
  pub no_sink_fault : IsStill old.sink.faults new.sink.faults
