-- The law, for all turns.
use Rattle.hostile_replay.proofs.CommitsFirst.{commits_first}
use Rattle.hostile_replay.proofs.laws.commits_come_first.Goals as goal

pub returns : goal.returns
returns c = commits_first
