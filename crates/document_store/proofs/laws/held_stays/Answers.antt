-- The law is a lemma.
use Rattle.document_store.proofs.Holding.{held_on}
use Rattle.document_store.proofs.laws.held_stays.Goals as goal

pub returns : goal.returns
returns c = λ g old new n id body e h. held_on e h
