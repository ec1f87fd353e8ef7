-- The law, for all images.
use Rattle.ingest_laws.proofs.SettledTrails.{settled_trails}
use Rattle.ingest_laws.proofs.laws.settled_trails.Goals as goal

pub returns : goal.returns
returns c = λ g image at l block place p layout s e b below h. settled_trails s e b below h
