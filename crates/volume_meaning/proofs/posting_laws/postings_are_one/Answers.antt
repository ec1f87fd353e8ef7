-- The law is a lemma.
use Rattle.volume_meaning.proofs.OnePostings.{postings_one}
use Rattle.volume_meaning.proofs.posting_laws.postings_are_one.Goals as goal

pub returns : goal.returns
returns c = postings_one
