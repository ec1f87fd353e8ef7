-- The law, for all runs.
use Rattle.worm_memory.proofs.OwnChanges.{none_uncounted}
use Rattle.worm_memory.proofs.laws.none_is_uncounted.Goals as goal

pub returns : goal.returns
returns c = none_uncounted
