-- Its one posting and its bucket.
use Rattle.small_volume.proofs.StampedIndex.{kept}
use Rattle.small_volume.proofs.stamped_volume.the_stamped_document_is_kept.Goals as goal

pub returns : goal.returns
returns c = kept
