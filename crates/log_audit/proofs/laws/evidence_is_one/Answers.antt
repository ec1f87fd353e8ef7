-- The lemma.
use Rattle.log_audit.proofs.Uniqueness.{first_is_one}
use Rattle.log_audit.proofs.laws.evidence_is_one.Goals as goal

pub returns : goal.returns
returns c = first_is_one
