-- The law, for all devices.
use Rattle.worm_memory.proofs.Telling.{plan_is_kept}
use Rattle.worm_memory.proofs.laws.a_plan_is_kept.Goals as goal

pub returns : goal.returns
returns c = plan_is_kept
