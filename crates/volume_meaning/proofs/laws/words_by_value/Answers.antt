-- The law is a lemma.
use Rattle.volume_meaning.proofs.WordValues.{words_by_value}
use Rattle.volume_meaning.proofs.laws.words_by_value.Goals as goal

pub returns : goal.returns
returns c = words_by_value
