-- The law, for all terms and bodies.
use Rattle.volume_exercise.proofs.Counting.{terms_are_words}
use Rattle.volume_exercise.proofs.laws.terms_are_words.Goals as goal

pub returns : goal.returns
returns c = terms_are_words
