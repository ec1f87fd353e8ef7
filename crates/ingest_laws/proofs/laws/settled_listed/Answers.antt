-- The law, for all images.
use Rattle.ingest_laws.proofs.SettledShapes.{settled_listed}
use Rattle.ingest_laws.proofs.laws.settled_listed.Goals as goal

pub returns : goal.returns
returns c = λ g image at l layout s e list. settled_listed layout s e list
