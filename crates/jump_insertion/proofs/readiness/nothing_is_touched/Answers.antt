-- The law, for all states.
use Rattle.jump_insertion.proofs.Untouched.{nothing_touched}
use Rattle.jump_insertion.proofs.readiness.nothing_is_touched.Goals as goal

pub returns : goal.returns
returns c = nothing_touched
