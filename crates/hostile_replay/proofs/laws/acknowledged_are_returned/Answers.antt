-- The law, for all worlds.
use Rattle.hostile_replay.proofs.Returned.{acknowledged_returned}
use Rattle.hostile_replay.proofs.laws.acknowledged_are_returned.Goals as goal

pub returns : goal.returns
returns c = acknowledged_returned
