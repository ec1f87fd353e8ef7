-- The lemmas.
use Rattle.log_audit.proofs.Storing.{stored_is_live, live_is_stored}
use Rattle.log_audit.proofs.laws.stored_slots_are_live.Goals as goal

pub returns-clause-stored : goal.returns-clause-stored
returns-clause-stored c = stored_is_live

pub returns-clause-live : goal.returns-clause-live
returns-clause-live c = live_is_stored
