-- By the law of plans, from what every call keeps.
use Rattle.worm_memory.proofs.Telling.{plan_is_kept}
use Rattle.device_tests.proofs.memory_callers.write_two_by_plan.Goals as goal

pub returns-clause-kept : goal.returns-clause-kept
returns-clause-kept c =
    (plan_is_kept c.args.device.now c.write_two.new.device c.write_two.ensures.called c.requires.planned).2

pub returns-clause-same : goal.returns-clause-same
returns-clause-same c =
    (plan_is_kept c.args.device.now c.write_two.new.device c.write_two.ensures.called c.requires.planned).1
