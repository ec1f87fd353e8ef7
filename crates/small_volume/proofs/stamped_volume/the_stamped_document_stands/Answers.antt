-- The document of slot 0.
use Rattle.small_volume.proofs.Stamped.{stands_0}
use Rattle.small_volume.proofs.stamped_volume.the_stamped_document_stands.Goals as goal

pub returns : goal.returns
returns c = stands_0
