-- What playing an event does to a device in memory.
use Rattle.std.specs.Prelude.{IfOk, Result}
use Rattle.cell_types.specs.declared.refusal.NoMemory.{NoMemory}
use Rattle.worm_memory.specs.Device.{memory_of}
use Rattle.worm_memory.specs.declared.memory_device.MemoryDevice.{MemoryDevice}
use Rattle.script_events.specs.declared.event.Event.{Event}
use Rattle.script_replies.specs.declared.reply.Reply.{Reply}
use Rattle.hostile_replay.specs.Turns.{Turns}

-- the event does what it says and is answered so, unless the replay itself finds no memory
abbrev pub Plays : Event → MemoryDevice → MemoryDevice → Result Reply NoMemory → Type 0
Plays e old new result = IfOk result (λ r. Turns e r (memory_of old) (memory_of new))
