-- The law, for all images.
use Rattle.ingest_laws.proofs.TreeShapes.{rooted_apart}
use Rattle.ingest_laws.proofs.laws.rooted_apart.Goals as goal

pub returns : goal.returns
returns c = λ g old new to w e same. rooted_apart w e same
