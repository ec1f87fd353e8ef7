-- The law, for all devices.
use Rattle.worm_memory.proofs.Telling.{command_has_room}
use Rattle.worm_memory.proofs.laws.a_command_has_room.Goals as goal

pub returns : goal.returns
returns c = command_has_room
