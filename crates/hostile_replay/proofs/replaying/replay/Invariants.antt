-- The events so far were answered in a world.
use Rattle.std.proofs.Common.{take}
use Rattle.worm_memory.specs.Device.{memory_of}
use Rattle.hostile_replay.proofs.Rows.{IsSoFar}
use Rattle.hostile_replay.proofs.replaying.replay.Given as goal

abbrev pub invariant-loop-event : goal.invariant-loop-event
invariant-loop-event l =
    IsSoFar (take l.event-index l.events) l.replies.items (memory_of l.initial.device) (memory_of l.device)
