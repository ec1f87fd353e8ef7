-- The law is a lemma.
use Rattle.volume_meaning.proofs.OnePostings.{keys_fit}
use Rattle.volume_meaning.proofs.posting_laws.keys_fit.Goals as goal

pub returns : goal.returns
returns c = keys_fit
