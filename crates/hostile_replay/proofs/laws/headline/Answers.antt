-- The law, for all worlds.
use Rattle.hostile_replay.proofs.OfWords.{headline}
use Rattle.hostile_replay.proofs.laws.headline.Goals as goal

pub returns : goal.returns
returns c = headline
