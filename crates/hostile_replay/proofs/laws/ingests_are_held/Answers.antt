-- The law, for all worlds.
use Rattle.hostile_replay.proofs.HeldIngests.{ingests_held}
use Rattle.hostile_replay.proofs.Whole.{commands_whole}
use Rattle.hostile_replay.proofs.laws.ingests_are_held.Goals as goal

pub returns : goal.returns
returns c = ingests_held commands_whole
