-- The law, for all documents.
use Rattle.volume_meaning.proofs.Extending.{document_on}
use Rattle.volume_meaning.proofs.laws.documents_hold_on.Goals as goal

pub returns : goal.returns
returns c = λ cells old new n id body e d. document_on e d
