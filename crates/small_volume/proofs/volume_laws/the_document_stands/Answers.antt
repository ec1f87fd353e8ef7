-- The document of slot 0.
use Rattle.small_volume.proofs.Small.{stands_0}
use Rattle.small_volume.proofs.volume_laws.the_document_stands.Goals as goal

pub returns : goal.returns
returns c = stands_0
