-- The two directions are lemmas.
use Rattle.document_store.proofs.Holding.{held_stands, stands_held}
use Rattle.document_store.proofs.laws.held_is_standing.Goals as goal

pub returns : goal.returns
returns c = λ g cells image n id body volume. (
  held_stands g cells image n id body volume,
  stands_held g cells image n
      id body volume,
)
