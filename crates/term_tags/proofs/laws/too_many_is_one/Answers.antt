-- The law is a lemma.
use Rattle.term_tags.proofs.TooMany.{too_many_is_one}
use Rattle.term_tags.proofs.laws.too_many_is_one.Goals as goal

pub returns : goal.returns
returns c = too_many_is_one
