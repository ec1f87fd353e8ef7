-- The law, for all images.
use Rattle.ingest_laws.proofs.TreeShapes.{one_level}
use Rattle.ingest_laws.proofs.laws.nodes_have_one_level.Goals as goal

pub returns : goal.returns
returns c = λ g image to u v node w a b. one_level w a v b
