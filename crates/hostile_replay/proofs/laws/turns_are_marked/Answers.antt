-- The law, for all worlds.
use Rattle.hostile_replay.proofs.Undisturbed.{turns_marked}
use Rattle.hostile_replay.proofs.laws.turns_are_marked.Goals as goal

pub returns : goal.returns
returns c = turns_marked
