-- The law, for all worlds.
use Rattle.hostile_replay.proofs.OfWords.{none_of_words}
use Rattle.hostile_replay.proofs.laws.none_is_of_words.Goals as goal

pub returns : goal.returns
returns c = none_of_words
