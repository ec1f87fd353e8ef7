-- By what stands in the slot's cells.
use Rattle.plan_writer.proofs.Crashed.{has_state}
use Rattle.plan_writer.proofs.laws.slots_keep_states.Goals as goal

pub returns : goal.returns
returns c = λ g n p image left. has_state g n p image left
