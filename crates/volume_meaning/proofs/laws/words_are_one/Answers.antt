-- The law is a lemma.
use Rattle.volume_meaning.proofs.Words.{words_are_one}
use Rattle.volume_meaning.proofs.laws.words_are_one.Goals as goal

pub returns : goal.returns
returns c = words_are_one
