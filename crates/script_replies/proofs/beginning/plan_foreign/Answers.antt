-- One more foreign write is planned.
use Rattle.std.proofs.Common.{refl, true}
use Rattle.worm_memory.specs.Device.{memory_of}
use Rattle.script_replies.proofs.PlanRows.{next_foreign}
use Rattle.script_replies.proofs.beginning.plan_foreign.Goals as goal

pub loop-timed-preserved : goal.loop-timed-preserved
loop-timed-preserved c =
    next_foreign (memory_of c.args.device.now) (memory_of c.loop-timed.device) (memory_of c.foreign_before.new.self)
    c.args.foreign.now c.loop-timed.timed-index c.timed-item.result true c.requires.early c.loop-timed-test.true c.timed-item.is refl
    c.loop-timed.invariant c.in_ok-foreign_before.ensures.planned
