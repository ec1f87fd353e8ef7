-- The law, for all worlds.
use Rattle.hostile_replay.proofs.Undisturbed.{unshared_alone}
use Rattle.hostile_replay.proofs.Whole.{commands_whole}
use Rattle.hostile_replay.proofs.laws.unshared_is_alone.Goals as goal

pub returns : goal.returns
returns c = unshared_alone commands_whole
