-- The law, for all devices.
use Rattle.worm_memory.proofs.Telling.{crash_has_room}
use Rattle.worm_memory.proofs.laws.a_crash_has_room.Goals as goal

pub returns : goal.returns
returns c = crash_has_room
