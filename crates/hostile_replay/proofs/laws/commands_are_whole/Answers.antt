-- The law, for all worlds.
use Rattle.hostile_replay.proofs.Whole.{commands_whole}
use Rattle.hostile_replay.proofs.laws.commands_are_whole.Goals as goal

pub returns : goal.returns
returns c = commands_whole
