-- The law, for all worlds.
use Rattle.hostile_replay.proofs.Exact.{told_exact}
use Rattle.hostile_replay.proofs.Whole.{commands_whole}
use Rattle.hostile_replay.proofs.laws.told_is_exact.Goals as goal

pub returns : goal.returns
returns c = told_exact commands_whole
