-- The law, for all worlds.
use Rattle.hostile_replay.proofs.Standing.{returned_stand}
use Rattle.hostile_replay.proofs.laws.returned_stand.Goals as goal

pub returns : goal.returns
returns c = returned_stand
