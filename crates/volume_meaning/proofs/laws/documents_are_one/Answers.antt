-- The law, for all images.
use Rattle.volume_meaning.proofs.OneDocument.{one_document}
use Rattle.volume_meaning.proofs.laws.documents_are_one.Goals as goal

pub returns : goal.returns
returns c = one_document
