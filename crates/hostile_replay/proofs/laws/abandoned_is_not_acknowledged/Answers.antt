-- The law, for all worlds.
use Rattle.hostile_replay.proofs.Abandoned.{abandoned}
use Rattle.hostile_replay.proofs.laws.abandoned_is_not_acknowledged.Goals as goal

pub returns : goal.returns
returns c = abandoned
