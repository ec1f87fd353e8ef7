-- The state, and the plan's document where a commit cell stands.
use Rattle.plan_writer.proofs.Crashed.{is_whole}
use Rattle.plan_writer.proofs.laws.crashes_leave_whole_slots.Goals as goal

pub returns : goal.returns
returns c = λ g n p id body image plans left. is_whole g n p image left id body plans
