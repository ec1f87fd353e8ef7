-- The law, for all devices.
use Rattle.worm_memory.proofs.Telling.{beginnings_tell}
use Rattle.worm_memory.proofs.laws.beginnings_tell.Goals as goal

pub returns : goal.returns
returns c = beginnings_tell
