-- The law is a lemma.
use Rattle.volume_meaning.proofs.StampedPostings.{stamps_add_one}
use Rattle.volume_meaning.proofs.posting_laws.stamps_add_one.Goals as goal

pub returns : goal.returns
returns c = stamps_add_one
