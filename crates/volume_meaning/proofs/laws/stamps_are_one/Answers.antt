-- The law is a lemma.
use Rattle.volume_meaning.proofs.Stamps.{stamps_one}
use Rattle.volume_meaning.proofs.laws.stamps_are_one.Goals as goal

pub returns : goal.returns
returns c = stamps_one
