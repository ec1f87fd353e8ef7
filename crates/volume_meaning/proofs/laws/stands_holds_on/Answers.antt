-- The law, for all documents.
use Rattle.volume_meaning.proofs.Extending.{stands_on}
use Rattle.volume_meaning.proofs.laws.stands_holds_on.Goals as goal

pub returns : goal.returns
returns c = λ cells old new n id body e s. stands_on e s
