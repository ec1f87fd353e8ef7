-- The law stands in a lemma.
use Rattle.recovery_engine.proofs.CrashedSettling.{kept_states}
use Rattle.recovery_engine.proofs.laws.settling_keeps_states.Goals as goal

pub returns : goal.returns
returns c = kept_states
