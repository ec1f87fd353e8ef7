-- The law is a lemma.
use Rattle.document_store.proofs.Holding.{held_is_one}
use Rattle.document_store.proofs.laws.held_is_one.Goals as goal

pub returns : goal.returns
returns c = held_is_one
