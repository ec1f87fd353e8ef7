-- The law, for all devices.
use Rattle.worm_memory.proofs.Telling.{record_tells}
use Rattle.worm_memory.proofs.laws.the_record_tells.Goals as goal

pub returns : goal.returns
returns c = record_tells
