-- The stamped volume, read rule by rule.
use Rattle.small_volume.proofs.StampedSettled.{is_settled, are_documents}
use Rattle.small_volume.proofs.stamped_volume.the_stamped_volume_is_settled.Goals as goal

pub returns-clause-settled : goal.returns-clause-settled
returns-clause-settled c = is_settled

pub returns-clause-documents : goal.returns-clause-documents
returns-clause-documents c = are_documents
