-- The law is a lemma.
use Rattle.commit_record.proofs.OneState.{one_state}
use Rattle.commit_record.proofs.laws.a_slot_has_one_state.Goals as goal

pub returns : goal.returns
returns c = one_state
