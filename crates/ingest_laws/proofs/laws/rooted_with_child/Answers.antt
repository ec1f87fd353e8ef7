-- The law, for all images.
use Rattle.ingest_laws.proofs.TreeShapes.{rooted_with_child}
use Rattle.ingest_laws.proofs.laws.rooted_with_child.Goals as goal

pub returns : goal.returns
returns c = λ g old new to v node x target w n xs less a child bucket fresh pool inside blank. rooted_with_child w n xs
    less a child bucket fresh pool inside blank
