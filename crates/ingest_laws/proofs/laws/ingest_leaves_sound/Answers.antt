-- The law, for all images.
use Rattle.ingest_laws.proofs.IngestLeaves.{leaves_sound}
use Rattle.ingest_laws.proofs.laws.ingest_leaves_sound.Goals as goal

pub returns : goal.returns
returns c = λ g old new image p i e f phases. leaves_sound i e f phases
