-- The law, for all images.
use Rattle.ingest_laws.proofs.ListShapes.{well_wider}
use Rattle.ingest_laws.proofs.laws.well_wider.Goals as goal

pub returns : goal.returns
returns c = λ image from to wider head more w. well_wider more w
