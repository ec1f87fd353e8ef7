-- The law, for all images.
use Rattle.ingest_laws.proofs.TreeShapes.{rooted_wider}
use Rattle.ingest_laws.proofs.laws.rooted_wider.Goals as goal

pub returns : goal.returns
returns c = λ g image to wider le inside w. rooted_wider le inside w
