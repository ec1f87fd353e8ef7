-- The small volume, read rule by rule.
use Rattle.small_volume.proofs.Settled.{is_settled, are_documents}
use Rattle.small_volume.proofs.kept_rules.the_small_volume_is_settled.Goals as goal

pub returns-clause-settled : goal.returns-clause-settled
returns-clause-settled c = is_settled

pub returns-clause-documents : goal.returns-clause-documents
returns-clause-documents c = are_documents
