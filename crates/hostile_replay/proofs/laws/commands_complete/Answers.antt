-- The law, for all worlds.
use Rattle.hostile_replay.proofs.Complete.{commands_complete}
use Rattle.hostile_replay.proofs.laws.commands_complete.Goals as goal

pub returns : goal.returns
returns c = commands_complete
