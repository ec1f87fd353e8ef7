-- The law is a lemma.
use Rattle.commit_record.proofs.Breaking.{no_state_breaks}
use Rattle.commit_record.proofs.laws.no_state_breaks_a_rule.Goals as goal

pub returns : goal.returns
returns c = no_state_breaks
