-- The law, for all devices.
use Rattle.worm_memory.proofs.Telling.{count_is_recorded}
use Rattle.worm_memory.proofs.laws.the_count_is_recorded.Goals as goal

pub returns : goal.returns
returns c = count_is_recorded
