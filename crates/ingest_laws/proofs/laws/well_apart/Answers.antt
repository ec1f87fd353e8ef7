-- The law, for all images.
use Rattle.ingest_laws.proofs.ListShapes.{well_apart}
use Rattle.ingest_laws.proofs.laws.well_apart.Goals as goal

pub returns : goal.returns
returns c = λ old new from to head w e same. well_apart w e same
