-- The law is a lemma.
use Rattle.volume_meaning.proofs.Lists.{lists_one}
use Rattle.volume_meaning.proofs.laws.lists_are_one.Goals as goal

pub returns : goal.returns
returns c = lists_one
