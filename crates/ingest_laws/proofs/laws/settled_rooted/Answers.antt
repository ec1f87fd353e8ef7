-- The law, for all images.
use Rattle.ingest_laws.proofs.SettledShapes.{settled_rooted}
use Rattle.ingest_laws.proofs.laws.settled_rooted.Goals as goal

pub returns : goal.returns
returns c = λ g image at layout s e. settled_rooted layout s e
