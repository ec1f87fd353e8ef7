-- The law, for all states.
use Rattle.jump_insertion.proofs.Untouched.{untouched_ready}
use Rattle.jump_insertion.proofs.readiness.untouched_is_ready.Goals as goal

pub returns : goal.returns
returns c = untouched_ready
