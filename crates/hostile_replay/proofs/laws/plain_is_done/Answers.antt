-- The law, for all worlds.
use Rattle.hostile_replay.proofs.Complete.{commands_complete}
use Rattle.hostile_replay.proofs.Undisturbed.{plain_done}
use Rattle.hostile_replay.proofs.Whole.{commands_whole}
use Rattle.hostile_replay.proofs.laws.plain_is_done.Goals as goal

pub returns : goal.returns
returns c = plain_done commands_whole commands_complete
