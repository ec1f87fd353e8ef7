-- The law, for all runs.
use Rattle.worm_memory.proofs.OwnChanges.{takes_steps}
use Rattle.worm_memory.proofs.laws.own_changes_take_steps.Goals as goal

pub returns : goal.returns
returns c = takes_steps
