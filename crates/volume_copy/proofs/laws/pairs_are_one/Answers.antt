-- The law is a lemma.
use Rattle.volume_copy.proofs.OnePairs.{one_pairs}
use Rattle.volume_copy.proofs.laws.pairs_are_one.Goals as goal

pub returns : goal.returns
returns c = one_pairs
