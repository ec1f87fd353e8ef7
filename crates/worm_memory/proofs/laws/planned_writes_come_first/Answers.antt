-- The law, for all runs.
use Rattle.worm_memory.proofs.OwnChanges.{planned_first}
use Rattle.worm_memory.proofs.laws.planned_writes_come_first.Goals as goal

pub returns : goal.returns
returns c = planned_first
